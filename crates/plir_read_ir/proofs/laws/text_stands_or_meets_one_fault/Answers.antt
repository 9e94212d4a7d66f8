use Rattle.plir_read_ir.proofs.IrTexts.{one_fault, stands_or_meets, text_refused}
use Rattle.plir_read_ir.proofs.laws.text_stands_or_meets_one_fault.Goals as goal

pub returns-clause-some : goal.returns-clause-some
returns-clause-some g c = λ n text. stands_or_meets g.D.ReadSet.find_kind n text

pub returns-clause-not_both : goal.returns-clause-not_both
returns-clause-not_both g c = λ n text o f s m. text_refused g.D.ReadSet.find_kind n text f m o s

pub returns-clause-one : goal.returns-clause-one
returns-clause-one g c = λ n text f h d e. one_fault g.D.ReadSet.find_kind n text f h d e
