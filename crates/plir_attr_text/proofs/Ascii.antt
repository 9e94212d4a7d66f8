-- What isn't UTF-8 is no identifier.
use Rattle.std.proofs.Common.{◌≡◌, ℕ, Bool, true, false, List, refl, sym, ◌∙◌, true≢false}
use Rattle.std.proofs.lemmas.Str.{IsUtf8-from_ascii, is_utf8-from_IsUtf8}
use Rattle.std.specs.Str.{is_utf8}
use Rattle.plir_data.specs.{Identifier.is_identifier, NameLaws.identifier_ascii}

pub no_identifier : (bs : List ℕ) → is_utf8 bs ≡ false → is_identifier bs ≡ false
no_identifier bs e = at (is_identifier bs) refl
  where
    at : (t : Bool) → is_identifier bs ≡ t → t ≡ false
    at true h = absurd (true≢false (sym (is_utf8-from_IsUtf8 bs (IsUtf8-from_ascii bs (identifier_ascii bs h))) ∙ e))
    at false h = refl
