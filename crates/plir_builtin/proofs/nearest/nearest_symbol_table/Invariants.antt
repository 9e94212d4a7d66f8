use Rattle.plir_builtin.specs.Nearest.{levels_up}
use Rattle.plir_builtin.proofs.Seeking.{IsSeeking}
use Rattle.plir_builtin.proofs.nearest.nearest_symbol_table.Given as goal
use Rattle.plir_core.specs.Measures.{depth}

abbrev pub invariant-up : goal.invariant-up
invariant-up g l = IsSeeking g.D.OpSet.is_symbol_table l.ctx l.fn.from l.at

abbrev pub decreases-up : goal.decreases-up
decreases-up g l = levels_up (depth l.ctx) l.at
