use Rattle.plir_core.proofs.editing.Ptr+Operation.remove_operand.Goals as goal
use Rattle.plir_core.proofs.Counted.{Counts-removed, operand_within}
use Rattle.plir_core.proofs.Edited.{held_as, operand_removed, operand_taken}

pub invariant_of-ctx : goal.invariant_of-ctx
invariant_of-ctx g c =
    let held = held_as c.op_mut.ensures.value c.behind-ctx.view_is in
    record {
      whole = operand_removed _ _ _ c.ctx.view_is c.ctx.invariant.whole c.args.self.slot c.args.i _ _ held
          c.remove-value.ensures.items;
      counted = Counts-removed c.ctx.inside.uses _ c.ctx.inside.nodes.ops _ c.args.i _ held c.remove-value.result _
          c.ctx.invariant.counted
          (operand_within _ _ c.ctx.view_is c.args.self c.args.i _ held c.requires.below) c.remove-value.ensures.items
          c.remove-value.ensures.value c.lower_value.ensures;
    }

pub returns-clause-whole : goal.returns-clause-whole
returns-clause-whole g c = (invariant_of-ctx g c).whole

pub returns-clause-live : goal.returns-clause-live
returns-clause-live g c =
    operand_taken _ _ _ c.ctx.view_is c.ctx.invariant.whole c.args.self c.args.i _ c.remove-value.result _
    (held_as c.op_mut.ensures.value c.behind-ctx.view_is) c.requires.below c.remove-value.ensures.value
