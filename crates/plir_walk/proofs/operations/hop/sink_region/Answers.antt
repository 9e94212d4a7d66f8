use Rattle.std.proofs.Common.{◌≡◌, Some, None, ap, refl, sym, ◌∙◌}
use Rattle.plir_core.specs.declared.ptr.IRNode.TheVariants.{BasicBlock, Region}
use Rattle.plir_walk.specs.OperationSteps.{Sinks}
use Rattle.plir_walk.specs.Step.{first_of}
use Rattle.plir_walk.proofs.OperationHops.{first-live, sink-more, sink-step}
use Rattle.plir_walk.proofs.operations.hop.sink_region.Goals as goal

pub sink_block-requires : goal.sink_block-requires
sink_block-requires g c =
    let w = c.args.config.now in
    let s = g.C.NodeLinks.look c.args.ctx.now in
    let first : first_of w s (Region c.args.region) ≡ Some (BasicBlock c.in-Some-BasicBlock.block) =
    sym c.first_taken.ensures ∙ (c.in-Some-BasicBlock.is ∙ ap Some c.in-Some-BasicBlock.field-0-is) in
    rw c.in-Some-BasicBlock.field-0-is (first-live w s c.forest.ensures (Region c.args.region)
    (BasicBlock c.in-Some-BasicBlock.block) first)

pub returns-in-Some-BasicBlock-clause-sinks : goal.returns-in-Some-BasicBlock-clause-sinks
returns-in-Some-BasicBlock-clause-sinks g c =
    let w = c.args.config.now in
    let s = g.C.NodeLinks.look c.args.ctx.now in
    let first : first_of w s (Region c.args.region) ≡ Some (BasicBlock c.in-Some-BasicBlock.block) =
    sym c.first_taken.ensures ∙ (c.in-Some-BasicBlock.is ∙ ap Some c.in-Some-BasicBlock.field-0-is) in
    let below : Sinks w s (BasicBlock c.in-Some-BasicBlock.block) c.sink_block.result = rw
    c.in-Some-BasicBlock.field-0-is at c.sink_block.ensures.sinks in
    sink-more w s (Region c.args.region) (BasicBlock c.in-Some-BasicBlock.block) c.sink_block.result first refl below

pub returns-in-Some : goal.returns-in-Some
returns-in-Some g c =
    let w = c.args.config.now in
    let s = g.C.NodeLinks.look c.args.ctx.now in
    let first : first_of w s (Region c.args.region) ≡ Some c.in-Some.child = sym c.first_taken.ensures ∙ c.in-Some.is in
    record {
      sinks = sink-step w s (Region c.args.region) (Some c.in-Some.child) first;
      live = first-live w s c.forest.ensures (Region c.args.region) c.in-Some.child first;
    }

pub returns-in-None-clause-sinks : goal.returns-in-None-clause-sinks
returns-in-None-clause-sinks g c =
    sink-step c.args.config.now (g.C.NodeLinks.look c.args.ctx.now) (Region c.args.region) None
    (sym c.first_taken.ensures ∙ c.in-None.is)
