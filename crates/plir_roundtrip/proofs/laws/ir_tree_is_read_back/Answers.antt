use Rattle.plir_roundtrip.proofs.SameReadBack.{same_read_back}
use Rattle.plir_roundtrip.proofs.laws.ir_tree_is_read_back.Goals as goal

pub returns : goal.returns
returns g c =
    same_read_back g.D.OpSet g.D.ReadSet.find_kind g.D.ReadSet.is_isolated c.contexts_stand.ensures
    c.dictionary_is_that_of_its_entries.ensures c.text_stands_for_one_operation.ensures c.args.text.now c.args.read.now
