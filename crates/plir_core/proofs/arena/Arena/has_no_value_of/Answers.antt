use Rattle.std.proofs.Common.{refl, subst, sym}
use Rattle.plir_core.specs.Above.{Reaches}
use Rattle.plir_core.specs.Nodes.{node_parent}
use Rattle.plir_core.specs.ContextView.{entity_node}
use Rattle.plir_core.proofs.arena.Arena.has_no_value_of.Goals as goal
use Rattle.plir_core.proofs.Ancestors.{AllSoFar-all}
use Rattle.plir_core.proofs.Scan.{not_all_values, more_values}

pub returns-then-is_ancestor : goal.returns-then-is_ancestor
returns-then-is_ancestor g c = (
  λ t. absurd (let f : ⊥ = cc in f),
  λ all. absurd (not_all_values (λ d. Reaches (node_parent c.args.self.now) (entity_node d) c.args.root → ⊥)
      c.args.values.now c.loop-value.value-index _ c.defining_entity.result c.defining_entity.ensures
      c.loop-value-test.true
      (λ out. out (subst (λ z. Reaches (node_parent c.args.self.now) z c.args.root) c.node.ensures
      (c.is_ancestor.ensures.0 c.if-is_ancestor.true))) all),
)

pub loop-value-preserved : goal.loop-value-preserved
loop-value-preserved g c =
    more_values (λ d. Reaches (node_parent c.args.self.now) (entity_node d) c.args.root → ⊥) c.args.values.now
    c.loop-value.value-index _ c.defining_entity.result c.defining_entity.ensures c.loop-value.invariant
    c.loop-value-test.true
    (λ r. let t = c.is_ancestor.ensures.1 (subst (λ z. Reaches (node_parent c.args.self.now) z c.args.root)
    (sym c.node.ensures) r) in let f : ⊥ = cc in f)

pub returns : goal.returns
returns g c = (
  λ t. AllSoFar-all (λ v. Reaches (node_parent c.args.self.now) (entity_node v.entity) c.args.root → ⊥)
      c.args.values.now c.loop-value.value-index c.loop-value.invariant c.loop-value-test.false,
  λ all. refl,
)
