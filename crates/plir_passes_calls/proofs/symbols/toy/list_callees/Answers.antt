use Rattle.std.proofs.Common.{◌<◌, [], ◌∷◌, ◌++◌, length, arith, sym, ap, ◌∙◌}
use Rattle.std.proofs.lemmas.Result.{err_from_is_err_and}
use Rattle.plir_core.specs.ContextView.{op_at}
use Rattle.plir_symbols.specs.SymbolNames.{names_in}
use Rattle.plir_passes_calls.specs.CallingKinds.{callees}
use Rattle.plir_passes_calls.proofs.Held.{named-in, none-in, texts}
use Rattle.plir_passes_calls.proofs.symbols.toy.list_callees.Goals as goal

pub returns-in_ok-push-in-Some-clause-names : goal.returns-in_ok-push-in-Some-clause-names
returns-in_ok-push-in-Some-clause-names g c =
    ap texts c.in_ok-push-in-Some.ensures.items
    ∙ ap (λ z. texts (z ++ c.in-Some.name ∷ [])) c.new-names.ensures.items
    ∙ sym (named-in (op_at c.args.ctx.now c.args.op) c.in-Some.name.now c.in-Some.ensures)

pub returns-in-None-clause-names : goal.returns-in-None-clause-names
returns-in-None-clause-names g c =
    ap texts c.new-names.ensures.items ∙ sym (none-in (op_at c.args.ctx.now c.args.op) c.in-None.ensures)

pub returns-in_err-push-in-Some-clause-refused : goal.returns-in_err-push-in-Some-clause-refused
returns-in_err-push-in-Some-clause-refused g c =
    let one = ap length (named-in (op_at c.args.ctx.now c.args.op) c.in-Some.name.now c.in-Some.ensures) in
    let some : 0 < length (names_in callees (op_at c.args.ctx.now c.args.op)) = omega (arith, one) in
    let p = err_from_is_err_and c.from_residual.result c.from_residual.ensures.1 in
    rw p.1 some
