use Rattle.plir_read.proofs.OpWhole.{stands_or_meets, op_text_refused, one_fault}
use Rattle.plir_read.proofs.laws.text_stands_or_meets_one_fault.Goals as goal

pub returns-clause-some : goal.returns-clause-some
returns-clause-some c n text = stands_or_meets n text

pub returns-clause-not_both : goal.returns-clause-not_both
returns-clause-not_both c n text w f s e = op_text_refused n text f e w s

pub returns-clause-one : goal.returns-clause-one
returns-clause-one c n text f g d e = one_fault n text f g d e
