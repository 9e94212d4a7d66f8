use Rattle.plir_core.proofs.editing.Ptr+BasicBlock.set_label.Goals as goal
use Rattle.plir_core.proofs.Edited.{held_as, labelled}

pub invariant_of-ctx : goal.invariant_of-ctx
invariant_of-ctx g c = record {
  whole = labelled _ _ _ c.ctx.view_is c.ctx.invariant.whole c.args.self.slot _ c.args.label
      (held_as c.block_mut.ensures.value c.behind-ctx.view_is);
  counted = c.ctx.invariant.counted;
}

pub returns-clause-whole : goal.returns-clause-whole
returns-clause-whole g c = (invariant_of-ctx g c).whole
