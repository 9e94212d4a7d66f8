use Rattle.plir_data.specs.AttrSeen.{attr_view}
use Rattle.plir_core.proofs.editing.Ptr+BasicBlock.swap_attr.Goals as goal
use Rattle.plir_core.proofs.Edited.{block_attr_swapped, either_way, held_as}
use Rattle.plir_core.proofs.Holds.{block_attr_set}

pub invariant_of-ctx : goal.invariant_of-ctx
invariant_of-ctx g c = record {
  whole = block_attr_set _ _ _ c.ctx.view_is c.ctx.invariant.whole c.args.self _ _ c.args.key.now
      (attr_view c.args.value) c.requires.live (held_as c.block_mut.ensures.value c.behind-ctx.view_is)
      (either_way c.replace.result c.replace.ensures.put c.replace.ensures.same) c.requires.handles;
  counted = c.ctx.invariant.counted;
}

pub returns-clause-live : goal.returns-clause-live
returns-clause-live g c = block_attr_swapped _ _ _ c.ctx.view_is c.ctx.invariant.whole attr_view c.replace.result
    c.args.self.slot _ (held_as c.block_mut.ensures.value c.behind-ctx.view_is) c.replace.ensures.live

pub returns-clause-whole : goal.returns-clause-whole
returns-clause-whole g c = (invariant_of-ctx g c).whole
