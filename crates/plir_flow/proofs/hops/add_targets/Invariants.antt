use Rattle.std.proofs.Common.{ℕ, suc, ◌≤◌, length, Option, Some, None}
use Rattle.plir_flow.specs.Hops.{IsLatest, IsReachedMore}
use Rattle.plir_flow.proofs.Hopping.{IsHopFrom}
use Rattle.plir_flow.proofs.hops.add_targets.Given as goal

abbrev pub invariant-loop-at : goal.invariant-loop-at
invariant-loop-at l =
    (n : ℕ) × ((n ≤ length l.hops) × IsLatest l.hops n l.fn.region l.at ×
    IsReachedMore (IsHopFrom l.hops l.fn.region n) l.initial.reached l.reached)

abbrev left : Option ℕ → ℕ
left None = 0
left (Some k) = suc k

abbrev pub decreases-loop-at : goal.decreases-loop-at
decreases-loop-at l = left l.at
