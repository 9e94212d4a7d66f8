use Rattle.plir_inliner.specs.Known.{AreSure}
use Rattle.plir_inliner.proofs.order.put_all.Given as goal

abbrev pub invariant-loop-call : goal.invariant-loop-call
invariant-loop-call g l = AreSure g.D.OpSet.is_symbol g.D.OpSet.is_symbol_table l.ctx l.tables
