use Rattle.std.proofs.Common.{◌≡◌, ◌+◌, ◌++◌, ◌∙◌, length, ap, subst, sym, arith, rules}
use Rattle.plir_store.specs.Table.{content_at}
use Rattle.plir_core.specs.Stored.{seat_of}
use Rattle.plir_core.specs.Uses.{uses_held}
use Rattle.plir_core.specs.ListedUses.{AreListed, used_in, used_node, node_uses_in}
use Rattle.plir_core.proofs.ListedUses.{AreListed-more}
use Rattle.plir_core.proofs.Seen.{slots_seen}
use Rattle.plir_core.proofs.context.Context.list_more.Goals as goal

pub returns : goal.returns
returns g c =
    let s = c.args.self.now in
    let u = c.args.used in
    let same = slots_seen c.self.view_is in
    let count : c.in-Some.count ≡ node_uses_in s (used_node u) c.args.slot =
    c.in-Some.ensures ∙ ap (λ n. uses_held (seat_of n) (content_at s.nodes.ops c.args.slot)) c.node.ensures in
    let seen : c.in-Some-checked_add.seen ≡ c.args.come.seen + c.in-Some.count = search rules in
    let base = AreListed-more s u c.args.come.end c.args.come.seen c.args.uses.now.items c.requires c.args.slot
    (omega (arith, c.if-slot-come.false))
    (omega (arith, same, c.num_op_slots.ensures, c.if-slot-num_op_slots.false)) in
    subst (λ x. AreListed s u (c.args.slot + 1) x c.list_uses_in.new.uses.items)
    (let r : c.args.come.seen + node_uses_in s (used_node u) c.args.slot ≡ c.in-Some-checked_add.seen = omega
    (arith, seen, count) in r)
    (subst (λ xs. AreListed s u (c.args.slot + 1) (c.args.come.seen + node_uses_in s (used_node u) c.args.slot) xs)
    (sym c.in_ok-list_uses_in.ensures) base)
