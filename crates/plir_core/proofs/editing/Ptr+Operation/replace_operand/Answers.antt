use Rattle.std.proofs.Common.{refl}
use Rattle.plir_core.proofs.editing.Ptr+Operation.replace_operand.Goals as goal
use Rattle.plir_core.proofs.Counted.{Counts-replaced, operand_there}
use Rattle.plir_core.proofs.Edited.{held_as, operand_replaced}

pub invariant_of-ctx : goal.invariant_of-ctx
invariant_of-ctx g c =
    let held = held_as c.op_mut.ensures.value c.behind-ctx.view_is in
    record {
      whole = operand_replaced _ _ _ c.ctx.view_is c.ctx.invariant.whole c.args.self.slot c.args.i _ c.args.value _
          held refl c.requires.value_live;
      counted = Counts-replaced c.ctx.inside.uses _ c.ctx.inside.nodes.ops _ c.args.i _ held c.args.value _
          c.ctx.invariant.counted _ c.get_operand-replaced.result
          (operand_there _ _ c.ctx.view_is c.args.self c.args.i _ held _ c.get_operand-replaced.ensures.value) refl
          c.raise_value.ensures c.lower_value.ensures;
    }

pub returns-clause-whole : goal.returns-clause-whole
returns-clause-whole g c = (invariant_of-ctx g c).whole
