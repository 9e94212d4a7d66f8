use Rattle.std.proofs.Common.{◌+◌, ◌-◌, ◌<◌, ◌≤◌, arith, length, refl, zero}
use Rattle.plir_store.specs.MemberLaws.{Has-at}
use Rattle.plir_core.specs.declared.ptr.IRNode.TheVariants.{Operation}
use Rattle.plir_core.specs.ContextView.{num_live, parent_of}
use Rattle.plir_passes.specs.Marked.{ops_of}
use Rattle.plir_passes.specs.Reached.{NeedsUnder, StaysItself}
use Rattle.plir_passes.proofs.Marking.{grown-as}
use Rattle.plir_passes.proofs.Needing.{first-grown}
use Rattle.plir_passes.proofs.Searching.{marked-fits, searching-end, searching-next, searching-start}
use Rattle.plir_passes.proofs.Upward.{reach-on, reached-is-under, stands-under, under-live}
use Rattle.plir_passes.proofs.reaching.reached_ops.Goals as goal

pub put_all_acting-requires : goal.put_all_acting-requires
put_all_acting-requires g c = λ q has.
    under-live c.args.ctx.now c.stands.ensures.standing.forest (Operation c.args.root) (Operation q)
    ((c.requires.under q).0 has) c.requires.live

pub ops-init : goal.ops-init
ops-init g c =
    let effect = g.D.EffectSet.has_effect in
    let ends = g.D.OpSet.is_terminator in
    searching-start (StaysItself effect ends c.args.ctx.now c.args.root)
    (NeedsUnder effect ends c.args.ctx.now c.args.root) _ _ c.new-reached.ensures.none c.new-reached.ensures.whole
    (first-grown effect ends c.args.ctx.now c.args.root c.args.under.now _ _ _ c.requires.under (zero, refl)
    c.in_ok-put.ensures c.in_ok-put_all_acting.ensures)

pub put_needed-requires-clause-live : goal.put_needed-requires-clause-live
put_needed-requires-clause-live g c =
    let s = c.args.ctx.now in
    let root = c.args.root in
    under-live s c.stands.ensures.standing.forest (Operation root) (Operation c.at-op.result)
    (reached-is-under g.D.EffectSet.has_effect g.D.OpSet.is_terminator s root c.at-op.result
    (c.ops.invariant.only c.at-op.result (Has-at (ops_of c.ops.reached) c.ops.next c.at-op.result c.at-op.ensures)))
    c.requires.live

pub put_needed-requires-clause-inner : goal.put_needed-requires-clause-inner
put_needed-requires-clause-inner g c = λ q inner.
    let s = c.args.ctx.now in
    let root = c.args.root in
    let op = c.at-op.result in
    (c.requires.under q).1 (reach-on (parent_of s) (Operation q) (Operation op) (Operation root)
    (stands-under s op q inner)
    (reached-is-under g.D.EffectSet.has_effect g.D.OpSet.is_terminator s root op
    (c.ops.invariant.only op (Has-at (ops_of c.ops.reached) c.ops.next op c.at-op.ensures))))

pub ops-preserved : goal.ops-preserved
ops-preserved g c =
    let effect = g.D.EffectSet.has_effect in
    let ends = g.D.OpSet.is_terminator in
    let below = c.len.ensures in
    searching-next (StaysItself effect ends c.args.ctx.now c.args.root)
    (NeedsUnder effect ends c.args.ctx.now c.args.root) c.ops.reached c.ops.next c.ops.invariant _ c.at-op.result
    c.at-op.ensures (omega (arith, below))
    (grown-as _ _ (λ q f. ((c.requires.under q).0 f.0, f.1)) (λ q f. ((c.requires.under q).1 f.0, f.1))
    c.in_ok-put_needed.ensures)

pub ops-smaller : goal.ops-smaller
ops-smaller g c =
    let s = c.args.ctx.now in
    let root = c.args.root in
    let fits = marked-fits s c.stands.ensures.standing c.ops.reached c.ops.invariant.whole
    (λ q has. under-live s c.stands.ensures.standing.forest (Operation root) (Operation q)
    (reached-is-under g.D.EffectSet.has_effect g.D.OpSet.is_terminator s root q (c.ops.invariant.only q has))
    c.requires.live) in
    let len = c.len.ensures in
    let less : num_live s - (c.ops.next + 1) < num_live s - c.ops.next = omega (arith, fits, len) in
    less

pub returns : goal.returns
returns g c =
    let effect = g.D.EffectSet.has_effect in
    let ends = g.D.OpSet.is_terminator in
    let len = c.len.ensures in
    let past : length (ops_of c.ops.reached) ≤ c.ops.next = omega (arith, len) in
    record {
      whole = c.ops.invariant.whole;
      reached = searching-end (StaysItself effect ends c.args.ctx.now c.args.root)
          (NeedsUnder effect ends c.args.ctx.now c.args.root) c.ops.reached c.ops.next c.ops.invariant past;
    }
