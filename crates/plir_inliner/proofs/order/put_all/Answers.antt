use Rattle.std.proofs.Common.{sym, ◌∙◌}
use Rattle.std.proofs.lemmas.Bool.{false≢true}
use Rattle.plir_inliner.specs.Meaning.{IsAnyRefusal}
use Rattle.plir_inliner.specs.Steps.{of_table}
use Rattle.plir_copies.specs.Telling.{same_ptr_told}
use Rattle.plir_copies.specs.RefusalLaws.{passed_on}
use Rattle.plir_inliner.proofs.Stepping.{has-at, no-op, one-refusal, table-refusal}
use Rattle.plir_inliner.proofs.order.put_all.Goals as goal

pub callee_of-requires-clause-live : goal.callee_of-requires-clause-live
callee_of-requires-clause-live g c =
    c.requires.live _ (has-at c.args.calls.now c.loop-call.call-index no-op c.loop-call-test.true)

pub wait_above-requires : goal.wait_above-requires
wait_above-requires g c =
    c.requires.live _ (has-at c.args.calls.now c.loop-call.call-index no-op c.loop-call-test.true)

pub returns-in_err-callee-clause-refused : goal.returns-in_err-callee-clause-refused
returns-in_err-callee-clause-refused g c =
    passed_on (IsAnyRefusal g.D.OpSet.is_symbol g.D.OpSet.is_symbol_table g.D.CallSet.call c.args.ctx.now c.args.root
    c.args.calls.now) c.from_residual.result c.from_residual.ensures.1
    (one-refusal g.D.OpSet.is_symbol g.D.OpSet.is_symbol_table g.D.CallSet.call g.D.CallSet.returned c.args.ctx.now
    c.args.root c.args.calls.now _
    (has-at c.args.calls.now c.loop-call.call-index no-op c.loop-call-test.true)
    (λ is. false≢true (sym c.if-eq.false ∙ (same_ptr_told _ c.args.root c.eq.result c.eq.ensures).1 is))
    (of_table c.in_err-callee.field-0.0)
    (table-refusal g.D.OpSet.is_symbol g.D.OpSet.is_symbol_table g.D.CallSet.call g.D.CallSet.returned c.args.ctx.now
    _ c.in_err-callee.field-0.0 c.in_err-callee.ensures.refused))
