use Rattle.plir_data.specs.AttrSeen.{attr_view}
use Rattle.plir_core.proofs.editing.Ptr+Operation.remove_attr.Goals as goal
use Rattle.plir_core.proofs.Counted.{Counts-attributes}
use Rattle.plir_core.proofs.Edited.{held_as, op_attr_removed, op_attr_taken}

pub invariant_of-ctx : goal.invariant_of-ctx
invariant_of-ctx g c = record {
  whole = op_attr_removed _ _ _ c.ctx.view_is c.ctx.invariant.whole c.args.self.slot _ c.args.key.now _
      (held_as c.op_mut.ensures.value c.behind-ctx.view_is) c.remove.ensures.left;
  counted = Counts-attributes c.ctx.inside.uses c.ctx.inside.nodes.ops _ _ _
      (held_as c.op_mut.ensures.value c.behind-ctx.view_is) c.ctx.invariant.counted;
}

pub returns-clause-whole : goal.returns-clause-whole
returns-clause-whole g c = (invariant_of-ctx g c).whole

pub returns-clause-live : goal.returns-clause-live
returns-clause-live g c = op_attr_taken _ _ _ c.ctx.view_is c.ctx.invariant.whole attr_view c.remove.result
    c.args.self.slot _ (held_as c.op_mut.ensures.value c.behind-ctx.view_is) c.remove.ensures.live
