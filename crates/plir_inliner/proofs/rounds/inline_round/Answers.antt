use Rattle.std.proofs.Common.{◌≡◌, arith, subst, sym}
use Rattle.std.specs.Prelude.{IfSome}
use Rattle.plir_store.specs.Members.{Has}
use Rattle.plir_core.specs.declared.ptr.IRNode.TheVariants.{Operation}
use Rattle.plir_core.specs.Forest.{look}
use Rattle.plir_walk.specs.TreeLaws.{under-live}
use Rattle.plir_inliner.specs.declared.errors.InlineErr.TheVariants.{Memory}
use Rattle.plir_inliner.specs.Meaning.{IsAnyRefusal}
use Rattle.plir_inliner.specs.Steps.{CanStep, IsCutShort}
use Rattle.plir_copies.specs.Staying.{same_live}
use Rattle.plir_copies.specs.RefusalLaws.{passed_on, on_err}
use Rattle.plir_inliner.proofs.Stepping.{any-refusal, none-left, ready}
use Rattle.plir_inliner.proofs.Went.{cut-here, cut-on, part-none, part-on}
use Rattle.plir_inliner.proofs.rounds.inline_round.Goals as goal

pub first_step-requires-clause-live : goal.first_step-requires-clause-live
first_step-requires-clause-live g c = λ p h.
    under-live (look c.args.ctx.now) c.stands.ensures.standing.forest (Operation c.args.root) (Operation p)
    c.requires.root_live (c.in_ok-calls.ensures.only p (subst (λ xs. Has xs p) c.deref.ensures.value h)).0

pub in_turn-requires-clause-live : goal.in_turn-requires-clause-live
in_turn-requires-clause-live g c = λ p h.
    under-live (look c.args.ctx.now) c.stands.ensures.standing.forest (Operation c.args.root) (Operation p)
    c.requires.root_live (c.in_ok-calls.ensures.only p (subst (λ xs. Has xs p) c.deref-2.ensures.value h)).0

pub returns-in_err-calls-clause-err : goal.returns-in_err-calls-clause-err
returns-in_err-calls-clause-err g c =
    passed_on (IsCutShort g.D.OpSet.is_symbol g.D.OpSet.is_symbol_table g.D.CallSet.call g.D.CallSet.returned
    c.args.root c.args.ctx.now c.args.ctx.now c.args.tally.now.left) c.from_residual.result c.from_residual.ensures.1
    (cut-here Memory tt (same_live c.args.ctx.now))

pub returns-in_err-first-clause-err : goal.returns-in_err-first-clause-err
returns-in_err-first-clause-err g c =
    passed_on (IsCutShort g.D.OpSet.is_symbol g.D.OpSet.is_symbol_table g.D.CallSet.call g.D.CallSet.returned
    c.args.root c.args.ctx.now c.args.ctx.now c.args.tally.now.left) c.from_residual-in_err-first.result
    c.from_residual-in_err-first.ensures.1
    (cut-here c.in_err-first.field-0.0
    (any-refusal g.D.OpSet.is_symbol g.D.OpSet.is_symbol_table g.D.CallSet.call g.D.CallSet.returned c.args.ctx.now
    c.args.root c.in_ok-calls.calls.items c.in_ok-calls.ensures c.in_err-first.field-0.0
    (subst (λ xs. IsAnyRefusal g.D.OpSet.is_symbol g.D.OpSet.is_symbol_table g.D.CallSet.call c.args.ctx.now
    c.args.root xs c.in_err-first.field-0.0) c.deref.ensures.value c.in_err-first.ensures.refused))
    (same_live c.args.ctx.now))

pub returns-in_err-turns-clause-err : goal.returns-in_err-turns-clause-err
returns-in_err-turns-clause-err g c =
    passed_on (IsCutShort g.D.OpSet.is_symbol g.D.OpSet.is_symbol_table g.D.CallSet.call g.D.CallSet.returned
    c.args.root c.args.ctx.now c.args.ctx.now c.args.tally.now.left) c.from_residual-in_err-turns.result
    c.from_residual-in_err-turns.ensures.1
    (cut-here c.in_err-turns.field-0.0
    (any-refusal g.D.OpSet.is_symbol g.D.OpSet.is_symbol_table g.D.CallSet.call g.D.CallSet.returned c.args.ctx.now
    c.args.root c.in_ok-calls.calls.items c.in_ok-calls.ensures c.in_err-turns.field-0.0
    (subst (λ xs. IsAnyRefusal g.D.OpSet.is_symbol g.D.OpSet.is_symbol_table g.D.CallSet.call c.args.ctx.now
    c.args.root xs c.in_err-turns.field-0.0) c.deref-2.ensures.value c.in_err-turns.ensures.refused))
    (same_live c.args.ctx.now))

pub returns-in_default-clause-part : goal.returns-in_default-clause-part
returns-in_default-clause-part g c = part-none

pub returns-in_default-clause-ended : goal.returns-in_default-clause-ended
returns-in_default-clause-ended g c =
    none-left g.D.OpSet.is_symbol g.D.OpSet.is_symbol_table g.D.CallSet.call g.D.CallSet.returned c.args.ctx.now
    c.args.root c.in_ok-calls.calls.items c.in_ok-calls.ensures (λ p b has other.
    c.in_ok-first.ensures.none c.in_default.is p b (subst (λ xs. Has xs p) (sym c.deref.ensures.value) has) other)

pub take-requires-clause-ready : goal.take-requires-clause-ready
take-requires-clause-ready g c =
    ready g.D.OpSet.is_symbol g.D.OpSet.is_symbol_table g.D.CallSet.call g.D.CallSet.returned c.args.ctx.now c.args.root
    c.in_ok-calls.calls.items c.in_ok-calls.ensures c.in-Some.first
    (subst (λ xs. Has xs c.in-Some.first.call) c.deref.ensures.value
    (subst (λ o. IfSome o (λ x. Has c.deref.result.now x.call)) c.in-Some.is c.in_ok-first.ensures.among))
    (subst (λ o. IfSome o (λ x. x.call ≡ c.args.root → ⊥)) c.in-Some.is c.in_ok-first.ensures.other)
    (subst (λ o. IfSome o (CanStep g.D.OpSet.is_symbol g.D.OpSet.is_symbol_table g.D.CallSet.call g.D.CallSet.returned
    c.args.ctx.now)) c.in-Some.is c.in_ok-first.ensures.some)

pub returns-in_err-take-clause-err : goal.returns-in_err-take-clause-err
returns-in_err-take-clause-err g c =
    passed_on (IsCutShort g.D.OpSet.is_symbol g.D.OpSet.is_symbol_table g.D.CallSet.call g.D.CallSet.returned
    c.args.root c.args.ctx.now c.take.new.ctx c.args.tally.now.left) c.from_residual-in_err-take.result
    c.from_residual-in_err-take.ensures.1
    (c.in_err-take.ensures.err)

pub returns-in_err-take-clause-agree_still : goal.returns-in_err-take-clause-agree_still
returns-in_err-take-clause-agree_still g c =
    on_err c.from_residual-in_err-take.result c.in_err-take.ensures.agree_still

pub returns-then-branch-clause-ended : goal.returns-then-branch-clause-ended
returns-then-branch-clause-ended g c = c.in_ok-take.ensures.over c.if-branch.true

pub returns-then-branch-clause-sure : goal.returns-then-branch-clause-sure
returns-then-branch-clause-sure g c = c.in_ok-take.ensures.sure_still c.in_turn.new.tables c.in_turn.ensures.sure

pub try_turns-requires-clause-sure : goal.try_turns-requires-clause-sure
try_turns-requires-clause-sure g c = c.in_ok-take.ensures.sure_still c.in_turn.new.tables c.in_turn.ensures.sure

pub try_turns-requires-clause-fits : goal.try_turns-requires-clause-fits
try_turns-requires-clause-fits g c = omega (arith, c.in_ok-take.ensures.fits, c.requires.fits)

pub returns-in_err-try_turns-clause-err : goal.returns-in_err-try_turns-clause-err
returns-in_err-try_turns-clause-err g c =
    passed_on (IsCutShort g.D.OpSet.is_symbol g.D.OpSet.is_symbol_table g.D.CallSet.call g.D.CallSet.returned
    c.args.root c.args.ctx.now c.try_turns.new.ctx c.args.tally.now.left) c.from_residual-in_err-try_turns.result
    c.from_residual-in_err-try_turns.ensures.1
    (cut-on c.in_ok-take.ensures.part c.in_err-try_turns.ensures.err)

pub returns-in_err-try_turns-clause-agree_still : goal.returns-in_err-try_turns-clause-agree_still
returns-in_err-try_turns-clause-agree_still g c =
    on_err c.from_residual-in_err-try_turns.result
    (λ d k. c.in_err-try_turns.ensures.agree_still d (c.in_ok-take.ensures.sure_still d k))

pub returns-then-branch-2-clause-part : goal.returns-then-branch-2-clause-part
returns-then-branch-2-clause-part g c =
    part-on c.in_ok-take.ensures.part c.in_ok-try_turns.ensures.part

pub returns-then-branch-2-clause-ended : goal.returns-then-branch-2-clause-ended
returns-then-branch-2-clause-ended g c = c.in_ok-try_turns.ensures.over c.if-branch-2.true

pub returns-then-branch-2-clause-sure_still : goal.returns-then-branch-2-clause-sure_still
returns-then-branch-2-clause-sure_still g c = λ d k.
    c.in_ok-try_turns.ensures.sure_still d (c.in_ok-take.ensures.sure_still d k)

pub returns-clause-part : goal.returns-clause-part
returns-clause-part g c =
    part-on c.in_ok-take.ensures.part c.in_ok-try_turns.ensures.part

pub returns-clause-ended : goal.returns-clause-ended
returns-clause-ended g c =
    let less = c.in_ok-take.ensures.less c.if-branch.false in
    let rest = c.in_ok-try_turns.ensures.part.left in
    omega (arith, less, rest)

pub returns-clause-sure_still : goal.returns-clause-sure_still
returns-clause-sure_still g c = λ d k.
    c.in_ok-try_turns.ensures.sure_still d (c.in_ok-take.ensures.sure_still d k)
