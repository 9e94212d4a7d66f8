use Rattle.plir_core.specs.declared.value.Value.{Value}
use Rattle.plir_core.specs.ContextView.{entity_node}
use Rattle.plir_core.proofs.Counting.{IsLowering}
use Rattle.plir_core.proofs.uses.counts.UseCounts.lower_values.Given as goal

abbrev pub invariant-loop-value : goal.invariant-loop-value
invariant-loop-value l = IsLowering (λ (v : Value). entity_node v.entity) l.values l.fn.self l.self l.value-index
