use Rattle.std.proofs.Common.{refl}
use Rattle.std.specs.FinMap as map
use Rattle.plir_builtin.proofs.UseChecks.{agree-empty}
use Rattle.plir_builtin.proofs.GivenOut.{given-empty}
use Rattle.plir_builtin.proofs.laws.no_tables_agree.Goals as goal

pub returns-clause-agree : goal.returns-clause-agree
returns-clause-agree g c = agree-empty g.D.OpSet.is_symbol g.D.OpSet.is_symbol_table c.args.ctx.now map.empty refl

pub returns-clause-given : goal.returns-clause-given
returns-clause-given g c = given-empty c.args.ctx.now
