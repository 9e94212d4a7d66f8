use Rattle.plir_builtin.proofs.StayedTables.{stayed-agree}
use Rattle.plir_builtin.proofs.laws.stayed_tables_agree.Goals as goal

pub returns : goal.returns
returns g c = λ s t. stayed-agree g.D.OpSet.is_symbol g.D.OpSet.is_symbol_table s t
