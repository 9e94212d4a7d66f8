use Rattle.std.proofs.Common.{sym, subst, ◌∙◌, length, arith}
use Rattle.std.proofs.lemmas.Option.{slice_get-get_or}
use Rattle.plir_flow.specs.Hops.{IsLatest, same_region}
use Rattle.plir_flow.proofs.Exact.{same-region-exact}
use Rattle.plir_flow.proofs.Hopping.{more-none, from-end, hop-done}
use Rattle.plir_flow.proofs.hops.add_targets.Goals as goal

pub loop-at-init : goal.loop-at-init
loop-at-init c = (
  length c.args.hops.now,
  (
    omega arith,
    subst (IsLatest c.args.hops.now (length c.args.hops.now) c.args.region)
        (sym (c.copied-at.ensures ∙ c.get.ensures.value)) (c.requires.heads c.args.region),
    more-none _ _ (from-end c.args.hops.now c.args.region),
  ),
)

pub loop-at-preserved : goal.loop-at-preserved
loop-at-preserved c =
    let w = c.loop-at.invariant in
    let latest = subst (IsLatest c.args.hops.now w.0 c.args.region) c.in-Some.is w.1.1 in
    let below = slice_get-get_or c.args.hops.now c.in-Some.place _ (omega (arith, latest.0, w.1.0)) in
    rw c.in_ok-add.ensures.put (hop-done c.args.hops.now c.args.region same_region same-region-exact w.0 c.in-Some.place _
    c.args.reached.now c.loop-at.reached c.requires.linked w.1.0 latest w.1.2 below)
