use Rattle.std.proofs.Common.{◌≡◌, ◌∙◌, length, ap, subst, arith}
use Rattle.std.specs.Prelude.{IfSome}
use Rattle.plir_core.specs.Stored.{seat_of}
use Rattle.plir_core.specs.Uses.{total, uses_of}
use Rattle.plir_core.specs.ListedUses.{AreListed, used_node, node_uses_in}
use Rattle.plir_core.proofs.ListedUses.{AreListed-all}
use Rattle.plir_core.proofs.context.Context.uses_by_noted.Goals as goal

pub returns-then-come-all : goal.returns-then-come-all
returns-then-come-all g c =
    let s = c.args.self.now in
    let u = c.args.used in
    let us = c.list_noted.new.uses.items in
    let come = c.in-Some-2.come in
    let all : c.in-Some.all ≡ uses_of s.nodes.ops (seat_of (used_node u)) =
    c.in-Some.ensures ∙ ap (λ n. uses_of s.nodes.ops (seat_of n)) c.node.ensures in
    let listed : AreListed s u come.end come.seen us =
    subst (λ r. IfSome r (λ x. AreListed s u x.end x.seen us)) c.in-Some-2.is c.in_ok-come.ensures in
    AreListed-all s u come.end come.seen us listed (omega (arith, c.if-come-all.true, all))
