use Rattle.std.proofs.Common.{arith}
use Rattle.plir_flow.specs.Segments.{sizes_of}
use Rattle.plir_flow.proofs.SegmentLists.{end-inside}
use Rattle.plir_flow.proofs.segment_sizes.start_of.Goals as goal

pub returns-clause-inside : goal.returns-clause-inside
returns-clause-inside g c =
    grind (arith, end-inside (sizes_of c.args.ctx.now c.args.op) c.args.seg, c.requires.segmented.total)
