use Rattle.std.proofs.Common.{◌≡◌, drop}
use Rattle.plir_checks.specs.Comparing.{difference}
use Rattle.plir_checks.proofs.comparing.compare.Given as goal

-- each so far has taken one
abbrev pub invariant-loop-place : goal.invariant-loop-place
invariant-loop-place l = difference l.place l.left.items (drop l.place l.came) ≡ difference 0 l.fn.expected l.fn.came
