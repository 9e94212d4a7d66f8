use Rattle.std.proofs.Common.{◌≡◌, ◌∙◌, ap, arith, length, subst, sym, take}
use Rattle.plir_store.specs.MemberLaws.{Has-at, Has-map}
use Rattle.plir_core.specs.ContextView.{IsLive}
use Rattle.plir_copies.specs.Images.{images}
use Rattle.plir_copies.specs.Twins.{AreChanged, copies_of}
use Rattle.plir_copies.proofs.Below.{all-taken, has-taken, taken-differs}
use Rattle.plir_copies.proofs.Changing.{changed-both, changed-none}
use Rattle.plir_copies.proofs.Lists.{map-next}
use Rattle.plir_copies.proofs.trees.change_copies.Goals as goal

pub loop-i-init : goal.loop-i-init
loop-i-init g c = record {
  changed = changed-none (images c.args.map.now) c.args.ctx.now;
  images_live = c.requires.images_live;
  formed = c.stands.ensures.whole;
}

pub change_copy-requires-clause-live : goal.change_copy-requires-clause-live
change_copy-requires-clause-live g c =
    let i = c.loop-i.i in
    let ws = c.args.twins.now in
    let w = c.twin_at-twin.result in
    c.loop-i.invariant.changed.keeps.live w.copy ∙ c.requires.live w (Has-at ws i w c.twin_at-twin.ensures)

pub change_copy-requires-clause-images_live : goal.change_copy-requires-clause-images_live
change_copy-requires-clause-images_live g c =
    c.loop-i.invariant.images_live

pub loop-i-preserved : goal.loop-i-preserved
loop-i-preserved g c =
    let i = c.loop-i.i in
    let ws = c.args.twins.now in
    let w = c.twin_at-twin.result in
    let s = c.args.ctx.now in
    let m = images c.args.map.now in
    let at = c.twin_at-twin.ensures in
    let u = c.change_copy.new.ctx in
    record {
      changed = subst (AreChanged s u m) (sym (map-next (λ z. z.copy) ws i w at)) (changed-both m s c.loop-i.ctx u
          (copies_of (take i ws)) w.copy c.loop-i.invariant.changed c.change_copy.ensures.changed
          (λ x h. let y = Has-map (λ z. z.copy) (take i ws) x h in
          subst (IsLive s) y.1.1 (c.requires.live y.0 (has-taken i ws y.0 y.1.0)))
          (c.requires.live w (Has-at ws i w at)) (taken-differs (λ z. z.copy) ws i w at c.requires.once));
      images_live = c.change_copy.ensures.images_live;
      formed = c.change_copy.ensures.whole;
    }

pub returns-clause-changed : goal.returns-clause-changed
returns-clause-changed g c =
    let ws = c.args.twins.now in
    let all : c.loop-i.i ≡ length ws = omega (arith, c.loop-i.auto.i-end, c.loop-i-test.false) in
    subst (λ l. AreChanged c.args.ctx.now c.loop-i.ctx (images c.args.map.now) (copies_of l))
    (ap (λ n. take n ws) all ∙ all-taken ws) c.loop-i.invariant.changed
