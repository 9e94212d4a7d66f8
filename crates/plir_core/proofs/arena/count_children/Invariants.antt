use Rattle.std.proofs.Common.{◌≡◌, ◌≤◌, ◌-◌, length}
use Rattle.std.specs.Prelude.{slice_get}
use Rattle.plir_store.specs.Lists.{children_at}
use Rattle.plir_core.proofs.arena.count_children.Given as goal

abbrev pub invariant-loop-at : goal.invariant-loop-at
invariant-loop-at l = (l.at ≡ slice_get (children_at l.lists l.list) l.count) × (l.count ≤ length
    (children_at l.lists l.list))

abbrev pub decreases-loop-at : goal.decreases-loop-at
decreases-loop-at l = length (children_at l.lists l.list) - l.count
