use Rattle.std.proofs.Common.{◌≡◌, true, true≢false, inl, inr, sym, subst, ◌∙◌}
use Rattle.std.proofs.lemmas.Result.{err_from_is_err_and}
use Rattle.plir_data.specs.Identifier.{is_identifier}
use Rattle.plir_read.proofs.NamesGiven.{front_identifier}
use Rattle.plir_read.proofs.names.given_name.Goals as goal

pub returns-in_err-identifier_of-in-Some-clause-refused : goal.returns-in_err-identifier_of-in-Some-clause-refused
returns-in_err-identifier_of-in-Some-clause-refused c =
    let p = err_from_is_err_and c.from_residual.result c.from_residual.ensures.1 in
    let i = subst (λ w. is_identifier w ≡ true) (sym (c.as_bytes-word.ensures.value ∙ c.as_str.ensures.text))
    c.as_str.ensures.formed in
    let f = front_identifier c.args.suffix c.as_bytes-word.result.now c.in-Some.front.now (sym c.in-Some.ensures)
    c.in-Some.len_at_least i in
    rw (p.1, p.2) (elim c.in_err-identifier_of-in-Some.ensures.refused
    [ inl e ↦ e | inr q ↦ absurd (true≢false (sym f ∙ q.1)) ])
