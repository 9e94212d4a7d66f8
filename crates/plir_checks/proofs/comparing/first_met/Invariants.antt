use Rattle.std.proofs.Common.{◌≡◌, ◌++◌, drop, take, option_map}
use Rattle.plir_checks.specs.Comparing.{left_by}
use Rattle.plir_checks.proofs.comparing.first_met.Given as goal

-- none so far is met
abbrev pub invariant-loop-place : goal.invariant-loop-place
invariant-loop-place l =
    option_map (λ left. take l.place l.expected ++ left) (left_by l.came (drop l.place l.expected)) ≡
    left_by l.came l.expected
