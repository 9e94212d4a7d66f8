use Rattle.plir_read.proofs.OpWhole.{one_op}
use Rattle.plir_read.proofs.laws.text_stands_for_one_operation.Goals as goal

pub returns : goal.returns
returns c m n bytes v w s r = one_op m n bytes v w s r
