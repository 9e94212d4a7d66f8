use Rattle.std.proofs.Common.{◌∙◌, [], inl, inr, sym, ap}
use Rattle.std.specs.Str.{is_utf8}
use Rattle.std.proofs.lemmas.Bool.{cases_Bool, cond-true, cond-false}
use Rattle.std.proofs.lemmas.Str.{is_utf8-from_IsUtf8, IsUtf8-from_is_utf8}
use Rattle.plir_driver.specs.Excerpt.{excerpt_of}
use Rattle.plir_driver.proofs.Printing.{if-ok}
use Rattle.plir_driver.proofs.telling.excerpt_at.Goals as goal

pub returns-in-Ok : goal.returns-in-Ok
returns-in-Ok c =
    if-ok c.excerpt.result (λ t e.
    e ∙ ap (λ z. excerpt_of z c.args.line c.args.column) c.in-Ok.ensures.cases.0
    ∙ sym (cond-true (is_utf8 c.args.bytes.now) (excerpt_of c.args.bytes.now c.args.line c.args.column) []
    (is_utf8-from_IsUtf8 c.args.bytes.now c.in-Ok.ensures.cases.1))) c.excerpt.ensures

pub returns-in-Err : goal.returns-in-Err
returns-in-Err c =
    c.new.ensures.bytes
    ∙ sym (elim (cases_Bool (is_utf8 c.args.bytes.now)) [
      | inl text ↦ absurd (c.in-Err.ensures.cases.0 (IsUtf8-from_is_utf8 c.args.bytes.now text))
      | inr other ↦ cond-false (is_utf8 c.args.bytes.now) (excerpt_of c.args.bytes.now c.args.line c.args.column) [] other
    ])
