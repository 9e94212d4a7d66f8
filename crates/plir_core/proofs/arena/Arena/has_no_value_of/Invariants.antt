use Rattle.plir_core.specs.Above.{Reaches}
use Rattle.plir_core.specs.Nodes.{node_parent}
use Rattle.plir_core.specs.ContextView.{entity_node}
use Rattle.plir_core.proofs.Ancestors.{AllSoFar}
use Rattle.plir_core.proofs.arena.Arena.has_no_value_of.Given as goal

abbrev pub invariant-loop-value : goal.invariant-loop-value
invariant-loop-value g l = AllSoFar (λ v. Reaches (node_parent l.self) (entity_node v.entity) l.root → ⊥) l.values
    l.value-index
