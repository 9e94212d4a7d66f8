use Rattle.std.proofs.Common.{◌≡◌, ◌+◌, ◌∙◌, length, ap, subst, arith, rules}
use Rattle.plir_store.specs.Table.{content_at}
use Rattle.plir_core.specs.ContextView.{entity_node}
use Rattle.plir_core.specs.Stored.{seat_of}
use Rattle.plir_core.specs.Uses.{uses_held}
use Rattle.plir_core.specs.Noted.{AreSeen, owner_uses_in}
use Rattle.plir_core.proofs.Noted.{AreSeen-more}
use Rattle.plir_core.proofs.Seen.{slots_seen}
use Rattle.plir_core.proofs.context.Context.see.Goals as goal

pub returns : goal.returns
returns g c =
    let s = c.args.self.now in
    let v = c.args.value in
    let same = slots_seen c.self.view_is in
    let owner : c.in_ok-owner.owner ≡ owner_uses_in s v c.args.slot =
    c.in_ok-owner.ensures
    ∙ ap (λ n. uses_held (seat_of n) (content_at s.nodes.ops c.args.slot)) (c.node-node.ensures ∙ ap entity_node
    c.defining_entity.ensures) in
    let own = c.num_uses_in_slot-own.ensures in
    let a : c.in_ok-checked_add.field-0 ≡ c.args.seen.owner + c.in_ok-owner.owner = search rules in
    let b : c.in_ok-checked_add-2.field-0 ≡ c.args.seen.own + c.num_uses_in_slot-own.result = search rules in
    let base = AreSeen-more s v c.args.seen.end c.args.seen.owner c.args.seen.own c.requires c.args.slot
    (omega (arith, c.if-slot-seen.false))
    (omega (arith, same, c.num_op_slots.ensures, c.if-slot-num_op_slots.false)) in
    subst (λ x. AreSeen s v (c.args.slot + 1) x c.in_ok-checked_add-2.field-0) (omega (arith, a, owner))
    (subst (λ y. AreSeen s v (c.args.slot + 1) (c.args.seen.owner + owner_uses_in s v c.args.slot) y) (omega
    (arith, b, own)) base)
