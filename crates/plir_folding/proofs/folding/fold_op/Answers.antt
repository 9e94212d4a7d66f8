use Rattle.std.proofs.Common.{arith}
use Rattle.plir_folding.proofs.Below.{folding-start, folding-live, folding-here, folding-count, folding-below}
use Rattle.plir_folding.proofs.Below.{folding-filled, folding-more, folding-end}
use Rattle.plir_folding.proofs.folding.fold_op.Goals as goal

pub loop-place-init : goal.loop-place-init
loop-place-init g c = folding-start c.lawful_changes.ensures c.stands.ensures.whole

pub fold_operand-requires-clause-live : goal.fold_operand-requires-clause-live
fold_operand-requires-clause-live g c =
    folding-live c.lawful_changes.ensures c.stands.ensures.whole c.requires.live c.loop-place.invariant

pub fold_operand-requires-clause-here : goal.fold_operand-requires-clause-here
fold_operand-requires-clause-here g c =
    folding-here c.lawful_changes.ensures c.stands.ensures.whole c.requires.live c.loop-place.invariant c.requires.here

pub fold_operand-requires-clause-below : goal.fold_operand-requires-clause-below
fold_operand-requires-clause-below g c =
    let same = folding-count c.lawful_changes.ensures c.stands.ensures.whole c.requires.live c.loop-place.invariant in
    omega (arith, same, c.get_num_operands-count.ensures.value, c.loop-place-test.true)

pub loop-place-preserved : goal.loop-place-preserved
loop-place-preserved g c =
    folding-more c.lawful_changes.ensures c.stands.ensures.whole c.requires.live c.loop-place.invariant
    c.in_ok-told.ensures.below c.in_ok-told.ensures.filled c.in_ok-told.ensures.told

pub returns-in_err-told-clause-below : goal.returns-in_err-told-clause-below
returns-in_err-told-clause-below g c =
    folding-below c.lawful_changes.ensures c.stands.ensures.whole c.requires.live c.loop-place.invariant
    c.in_err-told.ensures.below c.in_err-told.ensures.filled

pub returns-in_err-told-clause-filled : goal.returns-in_err-told-clause-filled
returns-in_err-told-clause-filled g c =
    folding-filled c.lawful_changes.ensures c.stands.ensures.whole c.requires.live c.loop-place.invariant
    c.in_err-told.ensures.below c.in_err-told.ensures.filled

pub returns-clause-below : goal.returns-clause-below
returns-clause-below g c = c.loop-place.invariant.below

pub returns-clause-told : goal.returns-clause-told
returns-clause-told g c = record {
  tells = c.loop-place.invariant.tells;
  settled =
      folding-end c.lawful_changes.ensures c.stands.ensures.whole c.requires.live c.loop-place.invariant
      (omega (arith, c.get_num_operands-count.ensures.value, c.loop-place-test.false));
}

pub returns-clause-filled : goal.returns-clause-filled
returns-clause-filled g c = c.loop-place.invariant.filled
