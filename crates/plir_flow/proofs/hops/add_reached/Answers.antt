use Rattle.std.proofs.Common.{◌<◌, ◌≤◌, subst, sym, ap, ◌∙◌, arith, length}
use Rattle.std.specs.Prelude.{slice_get}
use Rattle.std.proofs.lemmas.Option.{slice_get-get_or}
use Rattle.plir_flow.proofs.Reaching.{reaching-more, reaching-all, reached-within}
use Rattle.plir_flow.proofs.hops.add_reached.Goals as goal

pub loop-next-smaller : goal.loop-next-smaller
loop-next-smaller c =
    let bound =
    reached-within c.args.hops.now c.args.start c.loop-next.reached c.loop-next.next c.loop-next.invariant in
    omega (arith, bound, c.len.ensures, c.loop-next-test.true)

pub loop-next-preserved : goal.loop-next-preserved
loop-next-preserved c =
    let xs = c.loop-next.reached in
    let next = c.loop-next.next in
    let below : next < length xs = omega (arith, c.len.ensures, c.loop-next-test.true) in
    let within : next < length c.as_slice.result.now =
    subst (λ l. next < length l) (sym c.as_slice.ensures) below in
    let here = slice_get-get_or c.as_slice.result.now next _ within in
    reaching-more c.args.hops.now c.args.start xs c.add_targets-in-loop-next.new.reached next _
    c.loop-next.invariant below (ap (λ l. slice_get l next) (sym c.as_slice.ensures) ∙ here)
    c.in_ok-add_targets-2.ensures

pub returns-clause-all : goal.returns-clause-all
returns-clause-all c =
    let end : length c.loop-next.reached ≤ c.loop-next.next =
    omega (arith, c.len.ensures, c.loop-next-test.false) in
    reaching-all c.args.hops.now c.args.start c.loop-next.reached c.loop-next.next c.loop-next.invariant end
