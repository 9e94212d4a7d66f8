use Rattle.std.proofs.Common.{subst, sym, ◌∙◌}
use Rattle.std.specs.Prelude.{IfSome}
use Rattle.plir_store.specs.FilterLaws.{not-both}
use Rattle.plir_inliner.specs.Known.{IsTold}
use Rattle.plir_inliner.specs.Meaning.{IsBodyMeant}
use Rattle.plir_inliner.proofs.Stepping.{not-fitting, not-meant, not-plain, not-symbol}
use Rattle.plir_inliner.proofs.candidates.step_at.Goals as goal

pub returns-then-is_symbol-clause-none : goal.returns-then-is_symbol-clause-none
returns-then-is_symbol-clause-none g c = λ _ b h.
    not-symbol g.D.OpSet.is_symbol g.D.OpSet.is_symbol_table g.D.CallSet.call g.D.CallSet.returned c.args.ctx.now
    c.args.call (sym c.is_symbol.ensures ∙ c.if-is_symbol.true) b h

pub returns-in_default-clause-none : goal.returns-in_default-clause-none
returns-in_default-clause-none g c = λ _ b h.
    not-meant g.D.OpSet.is_symbol g.D.OpSet.is_symbol_table g.D.CallSet.call g.D.CallSet.returned c.args.ctx.now
    c.args.call (c.in_ok-block.ensures.none c.in_default.is) b h

pub returns-in_default-2-clause-none : goal.returns-in_default-2-clause-none
returns-in_default-2-clause-none g c = λ _ b h.
    (let meant =
    subst (λ o. IfSome o (IsBodyMeant g.D.OpSet.is_symbol g.D.OpSet.is_symbol_table g.D.CallSet.call c.args.ctx.now
    c.args.call)) c.in-Some.is c.in_ok-block.ensures.some in
    let told =
    subst (IsTold g.D.OpSet.is_symbol g.D.CallSet.call g.D.CallSet.returned c.args.ctx.now c.in-Some.block)
    c.in_default-2.is c.in_ok-cost.ensures.told in
    not-plain g.D.OpSet.is_symbol g.D.OpSet.is_symbol_table g.D.CallSet.call g.D.CallSet.returned c.args.ctx.now
    c.args.call c.in-Some.block meant told b h)

pub returns-then-not-can_inline-clause-none : goal.returns-then-not-can_inline-clause-none
returns-then-not-can_inline-clause-none g c = λ _ b h.
    (let meant =
    subst (λ o. IfSome o (IsBodyMeant g.D.OpSet.is_symbol g.D.OpSet.is_symbol_table g.D.CallSet.call c.args.ctx.now
    c.args.call)) c.in-Some.is c.in_ok-block.ensures.some in
    not-fitting g.D.OpSet.is_symbol g.D.OpSet.is_symbol_table g.D.CallSet.call g.D.CallSet.returned c.args.ctx.now
    c.args.call c.in-Some.block meant
    (λ fits. not-both c.can_inline.result (c.can_inline.ensures.1 fits) c.if-not-can_inline.true) b h)
