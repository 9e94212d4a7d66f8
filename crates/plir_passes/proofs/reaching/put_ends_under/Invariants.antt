use Rattle.std.proofs.Common.{◌≡◌, ◌-◌, length, take}
use Rattle.std.specs.Prelude.{slice_get}
use Rattle.plir_core.specs.ContextView.{children}
use Rattle.plir_passes.specs.Marked.{IsGrown}
use Rattle.plir_passes.specs.Seeking.{IsEnd, Through}
use Rattle.plir_passes.proofs.Marking.{AnyOf}
use Rattle.plir_passes.proofs.reaching.put_ends_under.Given as goal

abbrev pub invariant-parts : goal.invariant-parts
invariant-parts g l = record {
  at : l.at ≡ slice_get (children l.ctx l.region) l.place;
  grown : IsGrown
      (AnyOf (Through l.ctx (IsEnd g.D.OpSet.is_terminator l.ctx))
      (take l.place (children l.ctx l.region))) l.fn.reached l.reached;
}

abbrev pub decreases-parts : goal.decreases-parts
decreases-parts g l = length (children l.ctx l.region) - l.place
