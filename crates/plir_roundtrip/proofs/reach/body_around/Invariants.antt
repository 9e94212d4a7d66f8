use Rattle.std.proofs.Common.{◌≡◌, Some}
use Rattle.plir_core.specs.ContextView.{IsLive}
use Rattle.plir_core.specs.Measures.{depth}
use Rattle.plir_core.specs.declared.ptr.IRNode.{IRNode}
use Rattle.plir_core.specs.declared.ptr.IRNode.TheVariants.{Operation}
use Rattle.plir_roundtrip.proofs.Climbs.{IsClimbing, steps_left}
use Rattle.plir_roundtrip.proofs.reach.body_around.Given as goal

abbrev pub invariant-up : goal.invariant-up
invariant-up g l = record {
  live : (m : IRNode) → l.at ≡ Some m → IsLive l.ctx m;
  climbing : IsClimbing g.D.ReadSet.is_isolated l.ctx (Operation l.root) l.fn.node l.at;
}

abbrev pub decreases-up : goal.decreases-up
decreases-up g l = steps_left (depth l.ctx) l.at
