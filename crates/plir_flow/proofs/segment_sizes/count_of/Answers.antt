use Rattle.std.proofs.Common.{arith}
use Rattle.plir_core.specs.ContextView.{operands_of}
use Rattle.plir_flow.specs.Segments.{sizes_of}
use Rattle.plir_flow.proofs.SegmentLists.{count-in}
use Rattle.plir_flow.proofs.segment_sizes.count_of.Goals as goal

pub returns-clause-count : goal.returns-clause-count
returns-clause-count g c =
    grind (arith, count-in (sizes_of c.args.ctx.now c.args.op) (operands_of c.args.ctx.now c.args.op))
