use Rattle.std.proofs.Common.{◌≡◌, ◌∙◌, ap, arith}
use Rattle.plir_core.specs.ContextView.{entity_node}
use Rattle.plir_core.specs.Stored.{seat_of}
use Rattle.plir_core.specs.Uses.{uses_of}
use Rattle.plir_core.proofs.Noted.{AreSeen-all}
use Rattle.plir_core.proofs.context.Context.num_noted_uses.Goals as goal

pub returns-then-seen-all : goal.returns-then-seen-all
returns-then-seen-all g c =
    let s = c.args.self.now in
    let all : c.in_ok-all.all ≡ uses_of s.nodes.ops (seat_of (entity_node c.args.value.entity)) =
    c.in_ok-all.ensures
    ∙ ap (λ n. uses_of s.nodes.ops (seat_of n)) (c.node-node.ensures ∙ ap entity_node c.defining_entity.ensures) in
    AreSeen-all s c.args.value c.in_ok-seen.seen.end c.in_ok-seen.seen.owner c.in_ok-seen.seen.own c.in_ok-seen.ensures
    (omega (arith, c.if-seen-all.true, all))
