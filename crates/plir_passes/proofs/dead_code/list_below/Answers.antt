use Rattle.std.proofs.Common.{arith, ap, length, ◌∙◌}
use Rattle.std.proofs.lemmas.List.{nil_from_length}
use Rattle.plir_passes.proofs.ListWalk.{listed-again, walked-listed}
use Rattle.plir_passes.proofs.Pending.{pending-leaf, pending-listed}
use Rattle.plir_passes.proofs.dead_code.list_below.Goals as goal

pub returns-then-num_regions-eq0 : goal.returns-then-num_regions-eq0
returns-then-num_regions-eq0 g c =
    pending-leaf g.D.EffectSet.has_effect g.D.OpSet.is_terminator c.args.ctx.now c.args.root _
    c.new-list.ensures.listed c.new-list.ensures.waiting c.stands.ensures.standing.forest
    (nil_from_length _ (omega (arith, c.num_regions.ensures.value, c.if-num_regions-eq0.true)))

pub returns-in-Continue : goal.returns-in-Continue
returns-in-Continue g c =
    let effect = g.D.EffectSet.has_effect in
    let ends = g.D.OpSet.is_terminator in
    pending-listed effect ends c.args.ctx.now c.args.root _ c.new-list.ensures.listed c.new-list.ensures.waiting _
    (λ e. let z : ⊥ = omega (arith, c.num_regions.ensures.value, c.if-num_regions-eq0.false, ap length e) in z)
    (walked-listed effect ends c.args.ctx.now c.args.root _
    (λ d u p a d' u' h. (h.stays, λ e. listed-again effect ends p a (h.shows.0 ∙ e) h.shows.1 h.leaves h.met.1))
    c.stands.ensures.standing.forest _ _ c.in-Continue.is _ _ c.walk_ops.ensures)
