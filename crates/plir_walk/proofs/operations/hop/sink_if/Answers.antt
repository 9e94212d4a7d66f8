use Rattle.plir_walk.proofs.OperationHops.{sinks-if}
use Rattle.plir_walk.proofs.operations.hop.sink_if.Goals as goal

pub returns-in-Operation-clause-sinks : goal.returns-in-Operation-clause-sinks
returns-in-Operation-clause-sinks g c =
    sinks-if c.args.config.now (g.C.NodeLinks.look c.args.ctx.now) c.sink_op.result c.if-not-below.false
    c.in-Operation.is c.sink_op.ensures.sinks

pub returns-in-Region-clause-sinks : goal.returns-in-Region-clause-sinks
returns-in-Region-clause-sinks g c =
    sinks-if c.args.config.now (g.C.NodeLinks.look c.args.ctx.now) c.sink_region.result c.if-not-below.false
    c.in-Region.is c.sink_region.ensures.sinks

pub returns-in-BasicBlock-clause-sinks : goal.returns-in-BasicBlock-clause-sinks
returns-in-BasicBlock-clause-sinks g c =
    sinks-if c.args.config.now (g.C.NodeLinks.look c.args.ctx.now) c.sink_block.result c.if-not-below.false
    c.in-BasicBlock.is c.sink_block.ensures.sinks
