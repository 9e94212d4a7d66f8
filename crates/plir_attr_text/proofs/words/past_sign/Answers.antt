use Rattle.std.proofs.Common.{◌≡◌, ◌≢◌, ℕ, List, None, Result, refl, sym, ap, ◌∙◌}
use Rattle.plir_attr_text.specs.declared.fault.Stop.TheVariants.{OutOfMemory, Crowded, At}
use Rattle.plir_attr_text.specs.{declared.fault.Fault.Fault, declared.fault.Stop.Stop, Tokens.Token, Tokens.look}
use Rattle.plir_attr_text.specs.{Tokens.token_at, Lists.behind_sign, Lists.past_sign, Reading.Fails}
use Rattle.plir_attr_text.proofs.Peeks.{other-sign}
use Rattle.plir_attr_text.proofs.words.past_sign.Goals as goal

nothing : (b : ℕ) (r : Result (Token × List ℕ) Fault) (e : Stop) → Fails e r → e ≢ OutOfMemory → None ≡ behind_sign b r
nothing b r OutOfMemory h n = absurd (n refl)
nothing b r Crowded h n = absurd h
nothing b r (At f left) h n = rw (h.0) refl

pub returns-in-Err : goal.returns-in-Err
unfolding past_sign look
returns-in-Err c = nothing c.args.sign (token_at c.past_blank-rest.result.now) c.in-Err.field-0 c.in-Err.ensures.found
    c.in-Err.ensures.steady ∙ ap (λ xs. behind_sign c.args.sign (token_at xs)) c.past_blank-rest.ensures

pub returns-then-not-begins_byte : goal.returns-then-not-begins_byte
unfolding past_sign look
returns-then-not-begins_byte c =
    other-sign c.args.sign c.past_blank-rest.result.now (sym c.begins_byte.ensures ∙ c.if-not-begins_byte.true) ∙
    ap (λ xs. behind_sign c.args.sign (token_at xs)) c.past_blank-rest.ensures
