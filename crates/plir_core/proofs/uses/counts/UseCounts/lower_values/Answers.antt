use Rattle.plir_core.specs.declared.value.Value.{Value}
use Rattle.plir_core.specs.ContextView.{entity_node}
use Rattle.plir_core.proofs.uses.counts.UseCounts.lower_values.Goals as goal
use Rattle.plir_core.proofs.Counting.{IsLowering-start, IsLowering-more, IsLowering-end}

pub loop-value-init : goal.loop-value-init
loop-value-init c = IsLowering-start (λ (v : Value). entity_node v.entity) c.args.values.now c.args.self.now

pub loop-value-preserved : goal.loop-value-preserved
loop-value-preserved c =
    IsLowering-more (λ (v : Value). entity_node v.entity) c.args.values.now c.args.self.now c.loop-value.self
    c.lower_value.new.self c.loop-value.value-index _ c.lower_value.ensures c.loop-value.invariant
    c.loop-value-test.true

pub returns : goal.returns
returns c = IsLowering-end (λ (v : Value). entity_node v.entity) c.args.values.now c.args.self.now c.loop-value.self
    c.loop-value.value-index c.loop-value.invariant c.loop-value-test.false
