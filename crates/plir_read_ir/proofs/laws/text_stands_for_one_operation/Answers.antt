use Rattle.plir_read_ir.proofs.IrTexts.{one_operation}
use Rattle.plir_read_ir.proofs.laws.text_stands_for_one_operation.Goals as goal

pub returns : goal.returns
returns g c m n bytes v w s r = one_operation g.D.ReadSet.find_kind m n bytes v w s r
