use Rattle.plir_core.proofs.editing.Ptr+Operation.set_loc.Goals as goal
use Rattle.plir_core.proofs.Counted.{Counts-located}
use Rattle.plir_core.proofs.Edited.{held_as, located}

pub invariant_of-ctx : goal.invariant_of-ctx
invariant_of-ctx g c = record {
  whole = located _ _ _ c.ctx.view_is c.ctx.invariant.whole c.args.self.slot _ c.args.location
      (held_as c.op_mut.ensures.value c.behind-ctx.view_is);
  counted = Counts-located c.ctx.inside.uses c.ctx.inside.nodes.ops _ _ c.args.location
      (held_as c.op_mut.ensures.value c.behind-ctx.view_is) c.ctx.invariant.counted;
}

pub returns-clause-whole : goal.returns-clause-whole
returns-clause-whole g c = (invariant_of-ctx g c).whole
