use Rattle.std.proofs.Common.{◌≡◌, ◌≤◌, arith, get_or, length, subst, sym, ◌∙◌}
use Rattle.std.specs.Prelude.{IfSome}
use Rattle.std.proofs.lemmas.Bool.{false≢true}
use Rattle.std.proofs.lemmas.List.{take_all}
use Rattle.plir_store.specs.Members.{Has}
use Rattle.plir_core.specs.declared.ptr.BasicBlock.{BasicBlock as BlockKind}
use Rattle.plir_core.specs.declared.ptr.Ptr.{Ptr}
use Rattle.plir_inliner.specs.Calls.{CanInlineCall}
use Rattle.plir_inliner.specs.Meaning.{IsAnyRefusal}
use Rattle.plir_copies.specs.Telling.{same_ptr_told}
use Rattle.plir_copies.specs.RefusalLaws.{passed_on}
use Rattle.plir_inliner.proofs.Stepping.{each-at, has-at, no-op, one-refusal}
use Rattle.plir_inliner.proofs.candidates.first_step.Goals as goal

pub loop-call-preserved-then-eq : goal.loop-call-preserved-then-eq
loop-call-preserved-then-eq g c = record {
  sure = c.loop-call.invariant.sure;
  right = c.loop-call.invariant.right;
  none = each-at (λ p. (p ≡ c.args.root → ⊥) → (b : Ptr BlockKind) →
      CanInlineCall g.D.OpSet.is_symbol g.D.OpSet.is_symbol_table g.D.CallSet.call g.D.CallSet.returned c.args.ctx.now
      p b → ⊥) c.args.calls.now c.loop-call.call-index no-op c.loop-call-test.true c.loop-call.invariant.none
      (λ other b h. other ((same_ptr_told _ c.args.root c.eq.result c.eq.ensures).0 c.if-eq.true));
}

pub step_at-requires-clause-live : goal.step_at-requires-clause-live
step_at-requires-clause-live g c =
    c.requires.live _ (has-at c.args.calls.now c.loop-call.call-index no-op c.loop-call-test.true)

pub returns-in_err-step-clause-refused : goal.returns-in_err-step-clause-refused
returns-in_err-step-clause-refused g c =
    passed_on (IsAnyRefusal g.D.OpSet.is_symbol g.D.OpSet.is_symbol_table g.D.CallSet.call c.args.ctx.now c.args.root
    c.args.calls.now) c.from_residual.result c.from_residual.ensures.1
    (one-refusal g.D.OpSet.is_symbol g.D.OpSet.is_symbol_table g.D.CallSet.call g.D.CallSet.returned c.args.ctx.now
    c.args.root c.args.calls.now _
    (has-at c.args.calls.now c.loop-call.call-index no-op c.loop-call-test.true)
    (λ is. false≢true (sym c.if-eq.false ∙ (same_ptr_told _ c.args.root c.eq.result c.eq.ensures).1 is))
    c.in_err-step.field-0.0 c.in_err-step.ensures.refused)

pub returns-in-Some-clause-among : goal.returns-in-Some-clause-among
returns-in-Some-clause-among g c =
    let same =
    subst (λ o. IfSome o (λ x. x.call ≡ get_or c.args.calls.now c.loop-call.call-index no-op)) c.in-Some.is
    c.in_ok-step.ensures.at_call in
    subst (Has c.args.calls.now) (sym same)
    (has-at c.args.calls.now c.loop-call.call-index no-op c.loop-call-test.true)

pub loop-call-preserved : goal.loop-call-preserved
loop-call-preserved g c = record {
  sure = c.step_at.ensures.sure;
  right = c.in_ok-step.ensures.right;
  none = each-at (λ p. (p ≡ c.args.root → ⊥) → (b : Ptr BlockKind) →
      CanInlineCall g.D.OpSet.is_symbol g.D.OpSet.is_symbol_table g.D.CallSet.call g.D.CallSet.returned c.args.ctx.now
      p b → ⊥) c.args.calls.now c.loop-call.call-index no-op c.loop-call-test.true c.loop-call.invariant.none
      (λ other b h. c.in_ok-step.ensures.none c.in_default.is b h);
}

pub returns-clause-none : goal.returns-clause-none
returns-clause-none g c = λ _ p b has other h.
    (let past : length c.args.calls.now ≤ c.loop-call.call-index = omega (arith, c.loop-call-test.false) in
    c.loop-call.invariant.none p
    (subst (λ xs. Has xs p) (sym (take_all c.loop-call.call-index c.args.calls.now past)) has) other b h)
