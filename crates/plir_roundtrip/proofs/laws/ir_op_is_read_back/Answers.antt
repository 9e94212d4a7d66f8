use Rattle.plir_roundtrip.proofs.IrReadBack.{ir_read_back}
use Rattle.plir_roundtrip.proofs.laws.ir_op_is_read_back.Goals as goal

pub returns : goal.returns
returns g c =
    ir_read_back g.D.OpSet g.D.ReadSet.find_kind g.D.ReadSet.is_isolated c.contexts_stand.ensures
    c.text_stands_for_one_operation.ensures c.args.text.now c.args.read.now
