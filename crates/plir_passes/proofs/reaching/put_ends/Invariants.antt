use Rattle.std.proofs.Common.{◌≡◌, ◌-◌, length, take}
use Rattle.std.specs.Prelude.{slice_get}
use Rattle.plir_core.specs.declared.ptr.IRNode.TheVariants.{Operation}
use Rattle.plir_core.specs.ContextView.{children}
use Rattle.plir_passes.specs.Marked.{IsGrown}
use Rattle.plir_passes.specs.Seeking.{IsEnd, Through}
use Rattle.plir_passes.proofs.Marking.{AnyOf}
use Rattle.plir_passes.proofs.reaching.put_ends.Given as goal

abbrev pub invariant-regions : goal.invariant-regions
invariant-regions g l = record {
  at : l.at ≡ slice_get (children l.ctx (Operation l.op)) l.place;
  grown : IsGrown
      (AnyOf (Through l.ctx (Through l.ctx (IsEnd g.D.OpSet.is_terminator l.ctx)))
      (take l.place (children l.ctx (Operation l.op)))) l.fn.reached l.reached;
}

abbrev pub decreases-regions : goal.decreases-regions
decreases-regions g l = length (children l.ctx (Operation l.op)) - l.place
