use Rattle.std.proofs.Common.{inl, inr}
use Rattle.plir_data.specs.AttrSeen.{attr_view}
use Rattle.plir_core.proofs.editing.Ptr+BasicBlock.set_attr.Goals as goal
use Rattle.plir_core.proofs.Edited.{held_as}
use Rattle.plir_core.proofs.Holds.{block_attr_set}

pub invariant_of-ctx : goal.invariant_of-ctx
invariant_of-ctx g c = record {
  whole = block_attr_set _ _ _ c.ctx.view_is c.ctx.invariant.whole c.args.self _ _ c.args.key
      (attr_view c.args.value) c.requires.live (held_as c.block_mut.ensures.value c.behind-ctx.view_is)
      (inr c.in_err-insert.ensures.err) c.requires.handles;
  counted = c.ctx.invariant.counted;
}

pub invariant_of-ctx-2 : goal.invariant_of-ctx-2
invariant_of-ctx-2 g c = record {
  whole = block_attr_set _ _ _ c.ctx.view_is c.ctx.invariant.whole c.args.self _ _ c.args.key
      (attr_view c.args.value) c.requires.live (held_as c.block_mut.ensures.value c.behind-ctx.view_is)
      (inl c.in_ok-insert.ensures.ok) c.requires.handles;
  counted = c.ctx.invariant.counted;
}

pub returns-in_err-insert-clause-whole : goal.returns-in_err-insert-clause-whole
returns-in_err-insert-clause-whole g c = (invariant_of-ctx g c).whole

pub returns-clause-whole : goal.returns-clause-whole
returns-clause-whole g c = (invariant_of-ctx-2 g c).whole
