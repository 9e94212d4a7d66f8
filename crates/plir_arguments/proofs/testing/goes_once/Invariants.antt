use Rattle.std.proofs.Common.{◌≡◌, ◌<◌, ℕ}
use Rattle.plir_arguments.specs.Turned.{GoesTo}
use Rattle.plir_arguments.proofs.testing.goes_once.Given as goal

abbrev pub invariant-loop-i : goal.invariant-loop-i
invariant-loop-i g l = (j : ℕ) → j < l.i → GoesTo l.ctx l.op j l.block → j ≡ l.place
