use Rattle.std.proofs.Common.{◌≡◌, ◌<◌, ◌∷◌, ◌++◌, length, Some, None, sym, ap, subst, ◌∙◌}
use Rattle.std.proofs.lemmas.Result.{err_from_is_err_and}
use Rattle.plir_data.specs.AttrSeen.{attr_view}
use Rattle.plir_data.specs.DictSeen.{pairs_view}
use Rattle.plir_core.specs.ContextView.{op_at}
use Rattle.plir_symbols.specs.BuiltinNames.{name_under, names_under}
use Rattle.plir_symbols.proofs.HeldNames.{in-held, gathered-end, gathered-none, gathered-some, gathered-there}
use Rattle.plir_symbols.proofs.Told.{texts}
use Rattle.plir_symbols.proofs.builtin_names.names_held.Goals as goal

pub entries-init : goal.entries-init
entries-init g c =
    let into : c.into_iter-key-iterator.result ≡ c.iter-key-items.result = cc in
    ap (λ z. texts z ++ names_under (pairs_view c.into_iter-key-iterator.result)) c.new-names.ensures.items
    ∙ ap names_under (ap pairs_view into ∙ c.iter-key-items.ensures.entries ∙ c.attributes.ensures.value)

pub entries-preserved-in_default : goal.entries-preserved-in_default
entries-preserved-in_default g c =
    let left = pairs_view c.next.new.self in
    let k = c.in-Some.key.now in
    let v = attr_view c.in-Some.attribute.now in
    let step : pairs_view c.entries.key-iterator ≡ (k, v) ∷ left = ap pairs_view c.in-Some.ensures.steps in
    let none : None ≡ name_under (k, v) =
    c.in_default.ensures ∙ ap (λ w. name_under (w, v)) c.as_str.ensures.text in
    gathered-none _ left (k, v) c.entries.names.items _ step c.entries.invariant none

pub entries-preserved : goal.entries-preserved
entries-preserved g c =
    let left = pairs_view c.next.new.self in
    let k = c.in-Some.key.now in
    let v = attr_view c.in-Some.attribute.now in
    let n = c.in-Some-name_under.name in
    let step : pairs_view c.entries.key-iterator ≡ (k, v) ∷ left = ap pairs_view c.in-Some.ensures.steps in
    let named : Some n.now ≡ name_under (k, v) =
    c.in-Some-name_under.ensures ∙ ap (λ w. name_under (w, v)) c.as_str.ensures.text in
    gathered-some _ left (k, v) c.entries.names.items _ step c.entries.invariant n _ named c.in_ok-push.ensures.items

pub returns-clause-names : goal.returns-clause-names
returns-clause-names g c =
    gathered-end (pairs_view c.entries.key-iterator) c.entries.names.items _ (ap pairs_view c.in-None.ensures.steps.0)
    c.entries.invariant
    ∙ sym (in-held (op_at c.args.ctx.now c.args.op))

pub returns-in_err-push-clause-refused : goal.returns-in_err-push-clause-refused
returns-in_err-push-clause-refused g c =
    let left = pairs_view c.next.new.self in
    let k = c.in-Some.key.now in
    let v = attr_view c.in-Some.attribute.now in
    let n = c.in-Some-name_under.name in
    let step : pairs_view c.entries.key-iterator ≡ (k, v) ∷ left = ap pairs_view c.in-Some.ensures.steps in
    let named : Some n.now ≡ name_under (k, v) =
    c.in-Some-name_under.ensures ∙ ap (λ w. name_under (w, v)) c.as_str.ensures.text in
    let p = err_from_is_err_and c.from_residual.result c.from_residual.ensures.1 in
    rw p.1 (subst (λ xs. 0 < length xs) (sym (in-held (op_at c.args.ctx.now c.args.op)))
    (gathered-there _ left (k, v) c.entries.names.items _ step c.entries.invariant n.now named))
