use Rattle.std.proofs.Common.{◌≡◌, Some, None, ap, refl, sym, ◌∙◌}
use Rattle.plir_core.specs.declared.ptr.IRNode.TheVariants.{Operation, Region}
use Rattle.plir_walk.specs.OperationSteps.{Sinks}
use Rattle.plir_walk.specs.Step.{first_of}
use Rattle.plir_walk.proofs.OperationHops.{first-live, sink-more, sink-step}
use Rattle.plir_walk.proofs.operations.hop.sink_op.Goals as goal

pub sink_region-requires : goal.sink_region-requires
sink_region-requires g c =
    let w = c.args.config.now in
    let s = g.C.NodeLinks.look c.args.ctx.now in
    let first : first_of w s (Operation c.args.op) ≡ Some (Region c.in-Some-Region.region) =
    sym c.first_taken.ensures ∙ (c.in-Some-Region.is ∙ ap Some c.in-Some-Region.field-0-is) in
    rw c.in-Some-Region.field-0-is (first-live w s c.forest.ensures (Operation c.args.op)
    (Region c.in-Some-Region.region) first)

pub returns-in-Some-Region-clause-sinks : goal.returns-in-Some-Region-clause-sinks
returns-in-Some-Region-clause-sinks g c =
    let w = c.args.config.now in
    let s = g.C.NodeLinks.look c.args.ctx.now in
    let first : first_of w s (Operation c.args.op) ≡ Some (Region c.in-Some-Region.region) =
    sym c.first_taken.ensures ∙ (c.in-Some-Region.is ∙ ap Some c.in-Some-Region.field-0-is) in
    let below : Sinks w s (Region c.in-Some-Region.region) c.sink_region.result = rw c.in-Some-Region.field-0-is at
    c.sink_region.ensures.sinks in
    sink-more w s (Operation c.args.op) (Region c.in-Some-Region.region) c.sink_region.result first refl below

pub returns-in-Some : goal.returns-in-Some
returns-in-Some g c =
    let w = c.args.config.now in
    let s = g.C.NodeLinks.look c.args.ctx.now in
    let first : first_of w s (Operation c.args.op) ≡ Some c.in-Some.child = sym c.first_taken.ensures ∙ c.in-Some.is in
    record {
      sinks = sink-step w s (Operation c.args.op) (Some c.in-Some.child) first;
      live = first-live w s c.forest.ensures (Operation c.args.op) c.in-Some.child first;
    }

pub returns-in-None-clause-sinks : goal.returns-in-None-clause-sinks
returns-in-None-clause-sinks g c =
    sink-step c.args.config.now (g.C.NodeLinks.look c.args.ctx.now) (Operation c.args.op) None
    (sym c.first_taken.ensures ∙ c.in-None.is)
