use Rattle.plir_flow.proofs.SegmentPlaces.{first-in}
use Rattle.plir_flow.proofs.segment_types.find_misfit.Goals as goal

pub returns-clause-none : goal.returns-clause-none
returns-clause-none g c =
    (first-in c.args.ctx.now c.args.op c.args.seg c.requires.segmented c.requires.below g.Q.TypeTest.passes
    c.first_failing.result
    (rw (c.range_of-range.ensures.start, c.range_of-range.ensures.end) at c.first_failing.ensures.value)).0

pub returns-clause-some : goal.returns-clause-some
returns-clause-some g c =
    (first-in c.args.ctx.now c.args.op c.args.seg c.requires.segmented c.requires.below g.Q.TypeTest.passes
    c.first_failing.result
    (rw (c.range_of-range.ensures.start, c.range_of-range.ensures.end) at c.first_failing.ensures.value)).1
