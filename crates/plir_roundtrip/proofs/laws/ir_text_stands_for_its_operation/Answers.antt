use Rattle.plir_roundtrip.proofs.IrStands.{ir_stands}
use Rattle.plir_roundtrip.proofs.laws.ir_text_stands_for_its_operation.Goals as goal

pub returns : goal.returns
returns g c s p whole readable =
    ir_stands g.D.OpSet g.D.ReadSet.find_kind s whole (c.contexts_stand.ensures s whole) p readable
