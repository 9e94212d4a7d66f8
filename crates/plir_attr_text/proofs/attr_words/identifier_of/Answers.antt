use Rattle.std.proofs.Common.{◌≡◌, ℕ, List, Bool, refl, true, false, inr}
use Rattle.std.proofs.lemmas.Str.{IsUtf8-from_is_utf8}
use Rattle.std.specs.{Prelude.IsUtf8, Str.is_utf8}
use Rattle.plir_attr_text.proofs.Ascii.{no_identifier}
use Rattle.plir_attr_text.proofs.attr_words.identifier_of.Goals as goal

not_utf8 : (bs : List ℕ) (t : Bool) → is_utf8 bs ≡ t → (IsUtf8 bs → ⊥) → t ≡ false
not_utf8 bs true e h = absurd (h (IsUtf8-from_is_utf8 bs e))
not_utf8 bs false e h = refl

pub returns-in_default-clause-refused : goal.returns-in_default-clause-refused
returns-in_default-clause-refused c =
    inr (
      refl,
      no_identifier c.args.word.now
          (not_utf8 c.args.word.now (is_utf8 c.args.word.now) refl c.in_default.ensures.cases.0),
    )
