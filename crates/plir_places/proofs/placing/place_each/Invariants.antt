use Rattle.std.proofs.Common.{◌≡◌, drop}
use Rattle.plir_core.specs.Held.{KeepsNodes}
use Rattle.plir_core.specs.WellFormed.{IsWellFormed}
use Rattle.plir_places.specs.Placed.{with_places}
use Rattle.plir_places.proofs.placing.place_each.Given as goal

-- the operations so far have got their places, and those that are left get theirs
abbrev pub invariant-ops : goal.invariant-ops
invariant-ops g l = record {
  placed : with_places l.ctx (drop l.place l.ops) (drop l.place l.places) ≡ with_places l.fn.ctx l.ops l.places;
  keeps : KeepsNodes l.fn.ctx l.ctx;
  formed : IsWellFormed g.D.OpSet.attr_handles l.ctx;
}
