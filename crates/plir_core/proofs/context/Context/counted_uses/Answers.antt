use Rattle.std.proofs.Common.{◌≡◌, sym, ◌∙◌, ap, subst, eq-eqb}
use Rattle.plir_core.specs.ContextView.{entity_node}
use Rattle.plir_core.specs.Stored.{seat_of}
use Rattle.plir_core.specs.Uses.{uses_of}
use Rattle.plir_core.proofs.TimesUsed.{none_used}
use Rattle.plir_core.proofs.context.Context.counted_uses.Goals as goal

pub returns-then-count-eq0 : goal.returns-then-count-eq0
returns-then-count-eq0 g c =
    let not = subst (λ n. uses_of c.args.self.now.nodes.ops (seat_of n) ≡ 0) (c.node.ensures ∙ ap entity_node
    c.defining_entity.ensures) (sym c.in_ok-count.ensures ∙ c.if-count-eq0.true) in
    sym (none_used c.args.self.now c.args.value (eq-eqb (uses_of c.args.self.now.nodes.ops
    (seat_of (entity_node c.args.value.entity))) 0 not))
