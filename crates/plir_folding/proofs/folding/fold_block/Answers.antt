use Rattle.std.proofs.Common.{◌∙◌}
use Rattle.plir_core.specs.declared.ptr.IRNode.TheVariants.{BasicBlock}
use Rattle.plir_folding.proofs.Block.{block-start, block-live, block-parent, block-below, block-more, block-falls}
use Rattle.plir_folding.proofs.Block.{block-end}
use Rattle.plir_folding.proofs.folding.fold_block.Goals as goal

pub ops-init : goal.ops-init
ops-init g c =
    block-start c.lawful_changes.ensures c.stands.ensures.whole
    (c.get_head-at.ensures.value ∙ c.first_child_is_front.ensures.front)

pub get_next-at-requires : goal.get_next-at-requires
get_next-at-requires g c =
    block-live c.lawful_changes.ensures c.stands.ensures.whole c.ops.invariant c.in-Some.op c.in-Some.is

pub fold_op-requires-clause-live : goal.fold_op-requires-clause-live
fold_op-requires-clause-live g c =
    block-live c.lawful_changes.ensures c.stands.ensures.whole c.ops.invariant c.in-Some.op c.in-Some.is

pub fold_op-requires-clause-here : goal.fold_op-requires-clause-here
fold_op-requires-clause-here g c =
    block-parent c.lawful_changes.ensures c.stands.ensures.whole c.ops.invariant c.in-Some.op c.in-Some.is

pub ops-smaller : goal.ops-smaller
ops-smaller g c =
    block-falls c.lawful_changes.ensures c.stands.ensures.whole c.ops.invariant c.in-Some.op c.in-Some.is
    c.in_ok-told.ensures.below c.get_next-at.result
    (λ xs ys q. c.get_next-at.ensures.value ∙ c.next_is_behind.ensures (BasicBlock c.args.block) xs ys q)
    c.in_ok-told.ensures.filled

pub ops-preserved : goal.ops-preserved
ops-preserved g c =
    block-more c.lawful_changes.ensures c.stands.ensures.whole c.ops.invariant c.in-Some.op c.in-Some.is
    c.in_ok-told.ensures.below c.get_next-at.result
    (λ xs ys q. c.get_next-at.ensures.value ∙ c.next_is_behind.ensures (BasicBlock c.args.block) xs ys q)
    c.in_ok-told.ensures.filled c.in_ok-told.ensures.told

pub returns-in_err-told-clause-below : goal.returns-in_err-told-clause-below
returns-in_err-told-clause-below g c =
    block-below c.lawful_changes.ensures c.stands.ensures.whole c.ops.invariant c.in-Some.op c.in-Some.is
    c.in_err-told.ensures.below

pub returns-clause-below : goal.returns-clause-below
returns-clause-below g c = c.ops.invariant.below

pub returns-clause-told : goal.returns-clause-told
returns-clause-told g c = record {
  tells = c.ops.invariant.tells;
  settled =
      block-end c.lawful_changes.ensures c.stands.ensures.whole c.ops.invariant c.in_default.is;
}
