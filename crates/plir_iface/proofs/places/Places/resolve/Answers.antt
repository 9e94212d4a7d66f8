use Rattle.std.proofs.Common.{◌<◌, arith, rules, w32, SFits}
use Rattle.std.proofs.lemmas.Int.{to_z-of_z}
use Rattle.plir_iface.proofs.Spans.{end-below, span-of-range}
use Rattle.plir_iface.proofs.places.Places.resolve.Goals as goal

pub overflow_add-result-in-Range : goal.overflow_add-result-in-Range
overflow_add-result-in-Range c =
    let below : c.in-Range.end < c.args.len =
    end-below c.in-Within.m _ c.args.len c.in-Range.start c.in-Range.end c.in-Range.ensures in
    omega (arith, c.ranges.len.fits)

pub returns-in-Range-clause-ok : goal.returns-in-Range-clause-ok
returns-in-Range-clause-ok c =
    let fits : SFits w32 c.in-Within.n = search rules in
    let range = simp to_z-of_z at c.in-Range.ensures in
    rw c.in-Within.is (span-of-range c.in-Within.m c.in-Within.n c.args.len c.in-Range.start c.in-Range.end range)
