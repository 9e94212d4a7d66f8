use Rattle.plir_core.specs.Measures.{depth}
use Rattle.plir_builtin.specs.Nearest.{levels_up}
use Rattle.plir_inliner.proofs.Climbing.{IsThere}
use Rattle.plir_inliner.proofs.order.function_above.Given as goal

abbrev pub invariant-up : goal.invariant-up
invariant-up g l = IsThere l.ctx l.at

abbrev pub decreases-up : goal.decreases-up
decreases-up g l = levels_up (depth l.ctx) l.at
