use Rattle.plir_data.specs.AttrSeen.{attr_view}
use Rattle.plir_core.proofs.editing.Ptr+BasicBlock.remove_attr.Goals as goal
use Rattle.plir_core.proofs.Edited.{block_attr_removed, block_attr_taken, held_as}

pub invariant_of-ctx : goal.invariant_of-ctx
invariant_of-ctx g c = record {
  whole = block_attr_removed _ _ _ c.ctx.view_is c.ctx.invariant.whole c.args.self.slot _ c.args.key.now _
      (held_as c.block_mut.ensures.value c.behind-ctx.view_is) c.remove.ensures.left;
  counted = c.ctx.invariant.counted;
}

pub returns-clause-whole : goal.returns-clause-whole
returns-clause-whole g c = (invariant_of-ctx g c).whole

pub returns-clause-live : goal.returns-clause-live
returns-clause-live g c = block_attr_taken _ _ _ c.ctx.view_is c.ctx.invariant.whole attr_view c.remove.result
    c.args.self.slot _ (held_as c.block_mut.ensures.value c.behind-ctx.view_is) c.remove.ensures.live
