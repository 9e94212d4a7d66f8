use Rattle.std.proofs.Common.{refl, sym, ap, subst, ◌∙◌}
use Rattle.plir_attr_text.specs.{Tokens.token_at, Tokens.look, TypeReading.word_at, Levels.level_at, Reading.Gives}
use Rattle.plir_attr_text.proofs.Peeks.{begun, letter-level, other-level}
use Rattle.plir_attr_text.proofs.words.begin_level.Goals as goal

pub returns-clause-read : goal.returns-clause-read
unfolding level_at word_at look
returns-clause-read c =
    let level = letter-level c.args.levels c.past_blank-rest.result.now
    (sym c.begins_letter.ensures ∙ c.if-not-begins_letter.false) in
    subst (λ r. Gives (λ u. u) c.if_level.result r)
    (sym level ∙ ap (λ xs. begun c.args.levels (token_at xs)) c.past_blank-rest.ensures) c.if_level.ensures.read

pub returns-then-not-begins_letter-clause-read : goal.returns-then-not-begins_letter-clause-read
unfolding level_at word_at look
returns-then-not-begins_letter-clause-read c =
    let none = other-level c.args.levels c.past_blank-rest.result.now
    (sym c.begins_letter.ensures ∙ c.if-not-begins_letter.true) in
    (ap (λ xs. begun c.args.levels (token_at xs)) (sym c.past_blank-rest.ensures) ∙ none, refl)
