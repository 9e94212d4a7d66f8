use Rattle.plir_core.proofs.editing.Ptr+Operation.insert_operand.Goals as goal
use Rattle.plir_core.proofs.Counted.{Counts-inserted, Counts-unchanged}
use Rattle.plir_core.proofs.Edited.{held_as, operand_inserted, operands_same}

pub invariant_of-ctx : goal.invariant_of-ctx
invariant_of-ctx g c = record {
  whole = operands_same _ _ _ c.ctx.view_is c.ctx.invariant.whole c.args.self.slot _ _
      (held_as c.op_mut.ensures.value c.behind-ctx.view_is) c.in_err-insert.ensures.items;
  counted = Counts-unchanged c.ctx.inside.uses c.ctx.inside.nodes.ops _ _ _
      (held_as c.op_mut.ensures.value c.behind-ctx.view_is) c.in_err-insert.ensures.items c.ctx.invariant.counted;
}

pub invariant_of-ctx-2 : goal.invariant_of-ctx-2
invariant_of-ctx-2 g c = record {
  whole = operand_inserted _ _ _ c.ctx.view_is c.ctx.invariant.whole c.args.self.slot c.args.i _ c.args.value _
      (held_as c.op_mut.ensures.value c.behind-ctx.view_is) c.in_ok-insert.ensures.items c.requires.value_live;
  counted = Counts-inserted c.ctx.inside.uses _ c.ctx.inside.nodes.ops _ c.args.i _
      (held_as c.op_mut.ensures.value c.behind-ctx.view_is) c.args.value _
      c.ctx.invariant.counted c.in_ok-insert.ensures.items c.raise_value.ensures;
}

pub returns-in_err-insert-clause-whole : goal.returns-in_err-insert-clause-whole
returns-in_err-insert-clause-whole g c = (invariant_of-ctx g c).whole

pub returns-clause-whole : goal.returns-clause-whole
returns-clause-whole g c = (invariant_of-ctx-2 g c).whole
