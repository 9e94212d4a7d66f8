use Rattle.std.proofs.Common.{◌≡◌}
use Rattle.std.specs.Prelude.{slice_get}
use Rattle.plir_store.specs.Lists.{children_at}
use Rattle.plir_core.proofs.arena.child_at.Given as goal

abbrev pub invariant-loop-i : goal.invariant-loop-i
invariant-loop-i l = l.at ≡ slice_get (children_at l.lists l.list) l._i
