use Rattle.std.proofs.Common.{◌≡◌, sym, subst}
use Rattle.std.specs.Prelude.{IfSome}
use Rattle.plir_inliner.specs.declared.errors.InlineErr.TheVariants.{Memory}
use Rattle.plir_inliner.specs.Steps.{CanStep, IsBelow, IsCutShort}
use Rattle.plir_copies.specs.Staying.{same_live}
use Rattle.plir_copies.specs.RefusalLaws.{passed_on}
use Rattle.plir_inliner.proofs.Stepping.{step-refusal}
use Rattle.plir_inliner.proofs.Went.{cut-here, part-none, sure-after}
use Rattle.plir_inliner.proofs.rounds.try_turn.Goals as goal

pub step_at-requires-clause-live : goal.step_at-requires-clause-live
step_at-requires-clause-live g c = c.stands_below.ensures.live c.if-not-stands_below.false

pub returns-then-has-clause-part : goal.returns-then-has-clause-part
returns-then-has-clause-part g c = part-none

pub returns-then-not-stands_below-clause-part : goal.returns-then-not-stands_below-clause-part
returns-then-not-stands_below-clause-part g c = part-none

pub returns-clause-part : goal.returns-clause-part
returns-clause-part g c = part-none

pub take-requires-clause-ready : goal.take-requires-clause-ready
take-requires-clause-ready g c =
    let same =
    subst (λ o. IfSome o (λ x. x.call ≡ c.args.turn.call)) c.in-Some.is c.in_ok-step.ensures.at_call in
    record {
      below = subst (IsBelow c.args.ctx.now c.args.root) (sym same)
          (c.stands_below.ensures.below c.if-not-stands_below.false);
      can = subst (λ o. IfSome o (CanStep g.D.OpSet.is_symbol g.D.OpSet.is_symbol_table g.D.CallSet.call
          g.D.CallSet.returned c.args.ctx.now)) c.in-Some.is c.in_ok-step.ensures.some;
    }

pub returns-in-Some-clause-sure : goal.returns-in-Some-clause-sure
returns-in-Some-clause-sure g c =
    sure-after g.D.OpSet.is_symbol g.D.OpSet.is_symbol_table c.args.ctx.now c.take.new.ctx c.step_at.new.tables
    c.take.result c.take.ensures.sure_still c.step_at.ensures.sure

pub returns-in_err-step-clause-err : goal.returns-in_err-step-clause-err
returns-in_err-step-clause-err g c =
    let s = c.args.ctx.now in
    passed_on (IsCutShort g.D.OpSet.is_symbol g.D.OpSet.is_symbol_table g.D.CallSet.call g.D.CallSet.returned
    c.args.root s s c.args.tally.now.left) c.from_residual.result c.from_residual.ensures.1
    (cut-here c.in_err-step.field-0.0
    (step-refusal g.D.OpSet.is_symbol g.D.OpSet.is_symbol_table g.D.CallSet.call g.D.CallSet.returned s c.args.root
    c.args.turn.call (c.stands_below.ensures.below c.if-not-stands_below.false) c.in_err-step.field-0.0
    c.in_err-step.ensures.refused) (same_live s))

pub returns-in_err-put-clause-err : goal.returns-in_err-put-clause-err
returns-in_err-put-clause-err g c =
    let s = c.args.ctx.now in
    passed_on (IsCutShort g.D.OpSet.is_symbol g.D.OpSet.is_symbol_table g.D.CallSet.call g.D.CallSet.returned
    c.args.root s s c.args.tally.now.left) c.from_residual-in_err-put.result c.from_residual-in_err-put.ensures.1
    (cut-here Memory tt (same_live s))
