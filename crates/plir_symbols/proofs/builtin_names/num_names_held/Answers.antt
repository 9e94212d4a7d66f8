use Rattle.std.proofs.Common.{◌≡◌, ◌∷◌, true, false, length, sym, ap, ◌∙◌}
use Rattle.std.specs.Prelude.{is_some}
use Rattle.plir_data.specs.AttrSeen.{attr_view}
use Rattle.plir_data.specs.DictSeen.{pairs_view}
use Rattle.plir_core.specs.ContextView.{attributes_of, op_at}
use Rattle.plir_symbols.specs.BuiltinNames.{name_under, names_under}
use Rattle.plir_symbols.proofs.HeldNames.{in-held, counted-start, counted-some, counted-least, counted-none}
use Rattle.plir_symbols.proofs.HeldNames.{counted-end}
use Rattle.plir_symbols.proofs.builtin_names.num_names_held.Goals as goal

pub entries-init : goal.entries-init
entries-init g c =
    let into : c.into_iter-key-iterator.result ≡ c.iter-key-items.result = cc in
    counted-start (attributes_of c.args.ctx.now c.args.op) _ _
    (ap pairs_view into ∙ c.iter-key-items.ensures.entries ∙ c.attributes-attributes.ensures.value)
    (c.len-count.ensures ∙ ap length c.attributes-attributes.ensures.value)

pub entries-preserved-then-uses_name : goal.entries-preserved-then-uses_name
entries-preserved-then-uses_name g c =
    let left = pairs_view c.next.new.self in
    let k = c.in-Some.key.now in
    let v = attr_view c.in-Some.attribute.now in
    let step : pairs_view c.entries.key-iterator ≡ (k, v) ∷ left = ap pairs_view c.in-Some.ensures.steps in
    let yes : c.uses_name.result ≡ true = cc in
    let is : is_some (name_under (k, v)) ≡ true =
    ap (λ w. is_some (name_under (w, v))) (sym c.as_str.ensures.text) ∙ sym c.uses_name.ensures ∙ yes in
    counted-some _ left (k, v) c.entries.count _ step c.entries.invariant is

pub overflow_sub-count : goal.overflow_sub-count
overflow_sub-count g c =
    let left = pairs_view c.next.new.self in
    let k = c.in-Some.key.now in
    let v = attr_view c.in-Some.attribute.now in
    let step : pairs_view c.entries.key-iterator ≡ (k, v) ∷ left = ap pairs_view c.in-Some.ensures.steps in
    let no : c.uses_name.result ≡ false = cc in
    let is : is_some (name_under (k, v)) ≡ false =
    ap (λ w. is_some (name_under (w, v))) (sym c.as_str.ensures.text) ∙ sym c.uses_name.ensures ∙ no in
    counted-least _ left (k, v) c.entries.count _ step c.entries.invariant is

pub entries-preserved : goal.entries-preserved
entries-preserved g c =
    let left = pairs_view c.next.new.self in
    let k = c.in-Some.key.now in
    let v = attr_view c.in-Some.attribute.now in
    let step : pairs_view c.entries.key-iterator ≡ (k, v) ∷ left = ap pairs_view c.in-Some.ensures.steps in
    let no : c.uses_name.result ≡ false = cc in
    let is : is_some (name_under (k, v)) ≡ false =
    ap (λ w. is_some (name_under (w, v))) (sym c.as_str.ensures.text) ∙ sym c.uses_name.ensures ∙ no in
    counted-none _ left (k, v) c.entries.count _ step c.entries.invariant is

pub returns : goal.returns
returns g c =
    counted-end (pairs_view c.entries.key-iterator) c.entries.count
    (length (names_under (attributes_of c.args.ctx.now c.args.op))) (ap pairs_view c.in-None.ensures.steps.0)
    c.entries.invariant
    ∙ sym (ap length (in-held (op_at c.args.ctx.now c.args.op)))
