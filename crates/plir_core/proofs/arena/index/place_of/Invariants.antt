use Rattle.std.proofs.Common.{◌-◌, length}
use Rattle.plir_store.specs.Lists.{children_at}
use Rattle.plir_core.proofs.arena.index.place_of.Given as goal
use Rattle.plir_core.proofs.Siblings.{IsSeeking}

abbrev pub invariant-loop-at : goal.invariant-loop-at
invariant-loop-at l = IsSeeking (children_at l.lists l.list) l.fn.child l.place l.at

abbrev pub decreases-loop-at : goal.decreases-loop-at
decreases-loop-at l = length (children_at l.lists l.list) - l.place
