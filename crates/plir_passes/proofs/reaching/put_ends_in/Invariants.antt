use Rattle.std.proofs.Common.{◌≡◌, ◌-◌, length, take}
use Rattle.std.specs.Prelude.{slice_get}
use Rattle.plir_core.specs.ContextView.{children}
use Rattle.plir_passes.specs.Marked.{IsGrown}
use Rattle.plir_passes.specs.Seeking.{IsEnd}
use Rattle.plir_passes.proofs.Marking.{AnyOf}
use Rattle.plir_passes.proofs.reaching.put_ends_in.Given as goal

abbrev pub invariant-ops : goal.invariant-ops
invariant-ops g l = record {
  at : l.at ≡ slice_get (children l.ctx l.block) l.place;
  grown : IsGrown
      (AnyOf (IsEnd g.D.OpSet.is_terminator l.ctx)
      (take l.place (children l.ctx l.block))) l.fn.reached l.reached;
}

abbrev pub decreases-ops : goal.decreases-ops
decreases-ops g l = length (children l.ctx l.block) - l.place
