use Rattle.plir_core.specs.declared.value.Value.{Value}
use Rattle.plir_core.specs.ContextView.{entity_node}
use Rattle.plir_core.proofs.uses.counts.UseCounts.raise_values.Goals as goal
use Rattle.plir_core.proofs.Counting.{IsRaising-start, IsRaising-more, IsRaising-end}

pub loop-value-init : goal.loop-value-init
loop-value-init c = IsRaising-start (λ (v : Value). entity_node v.entity) c.args.values.now c.args.self.now

pub loop-value-preserved : goal.loop-value-preserved
loop-value-preserved c =
    IsRaising-more (λ (v : Value). entity_node v.entity) c.args.values.now c.args.self.now c.loop-value.self
    c.count_value.new.self c.loop-value.value-index _ c.count_value.ensures c.loop-value.invariant
    c.loop-value-test.true

pub returns : goal.returns
returns c = IsRaising-end (λ (v : Value). entity_node v.entity) c.args.values.now c.args.self.now c.loop-value.self
    c.loop-value.value-index c.loop-value.invariant c.loop-value-test.false
