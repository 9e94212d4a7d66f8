use Rattle.std.proofs.Common.{◌≡◌, ℕ, List, Bool, ap, subst, string_bytes, refl, true, false}
use Rattle.std.proofs.lemmas.Str.{IsUtf8-string_bytes, is_utf8-from_IsUtf8, IsUtf8-from_is_utf8}
use Rattle.std.specs.{Str.is_utf8, Prelude.IsUtf8}
use Rattle.plir_attr_text.proofs.strings.text_of.Goals as goal

not_utf8 : (bs : List ℕ) (t : Bool) → is_utf8 bs ≡ t → (IsUtf8 bs → ⊥) → t ≡ false
not_utf8 bs true e h = absurd (h (IsUtf8-from_is_utf8 bs e))
not_utf8 bs false e h = refl

pub returns-in-Ok : goal.returns-in-Ok
returns-in-Ok c =
    let same = ap (λ v. v.items) c.in-Ok.ensures.ok in (
      same,
      subst (λ b. is_utf8 b ≡ true) same
          (is_utf8-from_IsUtf8 (string_bytes c.in-Ok.text) (IsUtf8-string_bytes c.in-Ok.text)),
    )

pub returns : goal.returns
returns c = not_utf8 c.args.bytes.items (is_utf8 c.args.bytes.items) refl
    (λ u. let h = c.in-Err.ensures.succeeds u in absurd cc)
