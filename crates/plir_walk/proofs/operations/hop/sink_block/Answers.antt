use Rattle.std.proofs.Common.{Some, None, sym, ◌∙◌}
use Rattle.plir_core.specs.declared.ptr.IRNode.TheVariants.{BasicBlock}
use Rattle.plir_walk.proofs.OperationHops.{first-live, sink-step}
use Rattle.plir_walk.proofs.operations.hop.sink_block.Goals as goal

pub returns-in-Some-clause-sinks : goal.returns-in-Some-clause-sinks
returns-in-Some-clause-sinks g c =
    sink-step c.args.config.now (g.C.NodeLinks.look c.args.ctx.now) (BasicBlock c.args.block) (Some c.in-Some.child)
    (sym c.first_taken.ensures ∙ c.in-Some.is)

pub returns-in-Some-clause-live : goal.returns-in-Some-clause-live
returns-in-Some-clause-live g c =
    first-live c.args.config.now (g.C.NodeLinks.look c.args.ctx.now) c.forest.ensures (BasicBlock c.args.block)
    c.in-Some.child (sym c.first_taken.ensures ∙ c.in-Some.is)

pub returns-in-None-clause-sinks : goal.returns-in-None-clause-sinks
returns-in-None-clause-sinks g c =
    sink-step c.args.config.now (g.C.NodeLinks.look c.args.ctx.now) (BasicBlock c.args.block) None
    (sym c.first_taken.ensures ∙ c.in-None.is)
