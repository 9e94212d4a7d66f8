use Rattle.plir_roundtrip.proofs.ReadBack.{read_back}
use Rattle.plir_roundtrip.proofs.laws.op_is_read_back.Goals as goal

pub returns : goal.returns
returns g c =
    read_back g.D.OpSet c.contexts_stand.ensures c.dictionary_is_that_of_its_entries.ensures
    c.text_stands_for_one_operation.ensures c.args.text.now c.args.read.now
