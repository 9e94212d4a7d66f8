use Rattle.std.proofs.Common.{sym, arith}
use Rattle.plir_core.specs.ContextView.{operands_of}
use Rattle.plir_flow.specs.Segments.{sizes_of}
use Rattle.plir_flow.proofs.SegmentLists.{end-inside, segment-range}
use Rattle.plir_flow.proofs.SegmentsPut.{size-is, count-is}
use Rattle.plir_flow.proofs.laws.segments_stand_in_a_row.Goals as goal

pub returns-clause-within : goal.returns-clause-within
returns-clause-within g c =
    λ i. sym (segment-range (sizes_of c.args.ctx.now c.args.op) i (operands_of c.args.ctx.now c.args.op))

pub returns-clause-sizes : goal.returns-clause-sizes
returns-clause-sizes g c = λ i. sym (size-is c.args.ctx.now c.args.op c.requires.segmented i)

pub returns-clause-inside : goal.returns-clause-inside
returns-clause-inside g c =
    λ i. omega (arith, end-inside (sizes_of c.args.ctx.now c.args.op) i, c.requires.segmented.total)

pub returns-clause-count : goal.returns-clause-count
returns-clause-count g c = count-is c.args.ctx.now c.args.op c.requires.segmented
