use Rattle.plir_data.specs.AttrSeen.{attr_view}
use Rattle.plir_core.proofs.editing.Ptr+Operation.swap_attr.Goals as goal
use Rattle.plir_core.proofs.Counted.{Counts-attributes}
use Rattle.plir_core.proofs.Edited.{either_way, held_as, op_attr_swapped}
use Rattle.plir_core.proofs.Holds.{op_attr_set}

pub invariant_of-ctx : goal.invariant_of-ctx
invariant_of-ctx g c = record {
  whole = op_attr_set _ _ _ c.ctx.view_is c.ctx.invariant.whole c.args.self _ _ c.args.key.now
      (attr_view c.args.value) c.requires.live (held_as c.op_mut.ensures.value c.behind-ctx.view_is)
      (either_way c.replace.result c.replace.ensures.put c.replace.ensures.same) c.requires.handles;
  counted = Counts-attributes c.ctx.inside.uses c.ctx.inside.nodes.ops _ _ _
      (held_as c.op_mut.ensures.value c.behind-ctx.view_is) c.ctx.invariant.counted;
}

pub returns-clause-live : goal.returns-clause-live
returns-clause-live g c = op_attr_swapped _ _ _ c.ctx.view_is c.ctx.invariant.whole attr_view c.replace.result
    c.args.self.slot _ (held_as c.op_mut.ensures.value c.behind-ctx.view_is) c.replace.ensures.live

pub returns-clause-whole : goal.returns-clause-whole
returns-clause-whole g c = (invariant_of-ctx g c).whole
