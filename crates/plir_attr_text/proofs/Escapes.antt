-- Strings, escaped by bytes and by characters.
use Rattle.std.proofs.Common.{◌≡◌, ℕ, suc, ◌<◌, ◌≤◌, Bool, true, false, cond, nat_eq, nat_lt, List, [], ◌∷◌, ◌++◌}
use Rattle.std.proofs.Common.{length, get_or, refl, sym, ap, ◌∙◌, arith, inl, inr, append_assoc, append-nil}
use Rattle.std.proofs.{Math.Utf8.encode, lemmas.Bool.cases_lt, lemmas.Bool.ltb-false, lemmas.Bool.Decides.nat_tests}
use Rattle.std.proofs.{lemmas.Bool.Decides.Decides-ltb, lemmas.Str.inside_one, lemmas.Str.encode_ascii}
use Rattle.plir_attr_text.specs.Written.{escape, escape_char, escaped}

-- a byte of a character that is no ASCII character stands for itself
differs : (b k : ℕ) → k < 128 → 128 ≤ b → nat_eq b k ≡ false
differs b k p q = grind (arith, nat_tests)

not_below : (b : ℕ) → 128 ≤ b → nat_lt b 32 ≡ false
not_below b q = grind (arith, nat_tests)

escape-plain : (b : ℕ) → 128 ≤ b → escape b ≡ b ∷ []
escape-plain b q =
    rw (
      differs b 34 (omega arith) q,
      differs b 92 (omega arith) q,
      differs b 10 (omega arith) q,
      differs b 9 (omega arith) q,
      differs b 13 (omega arith) q,
      differs b 0 (omega arith) q,
      not_below b q,
      differs b 127 (omega arith) q,
    ) refl

escaped-run : (xs r : List ℕ) → ((k : ℕ) → k < length xs → 128 ≤ get_or xs k 0) → escaped (xs ++ r) ≡ xs ++ escaped r
escaped-run [] r h = refl
escaped-run (x ∷ xs) r h =
    rw (escape-plain x (h 0 (omega arith)))
    (ap (λ (y : List ℕ). x ∷ y) (escaped-run xs r (λ k lt. h (suc k) (omega arith))))

byte-large : (c k : ℕ) → 128 ≤ c → k < length (encode c) → 128 ≤ get_or (encode c) k 0
byte-large c k q lt =
    elim (cases_lt (get_or (encode c) k 0) 128) [
      | inl small ↦ let same : c ≡ get_or (encode c) k 0 =
          inside_one c [] (encode c) k (sym (append-nil (encode c))) lt small in absurd (omega arith)
      | inr large ↦ large
    ]

-- a character, and what stands behind it
escaped-char : (c : ℕ) (r : List ℕ) → escaped (encode c ++ r) ≡ escape_char c ++ escaped r
escaped-char c r = at (nat_lt c 128) refl
  where
    at : (t : Bool) → nat_lt c 128 ≡ t → escaped (encode c ++ r) ≡ cond t (escape c) (encode c) ++ escaped r
    at true e = ap (λ (x : List ℕ). escaped (x ++ r)) (encode_ascii c ((Decides-ltb c 128).0 e))
    at false e = escaped-run (encode c) r (λ k lt. byte-large c k (ltb-false c 128 e) lt)

-- one turn of a loop over the characters
pub turn : (o o' rest rest' total : List ℕ) (c : ℕ) → o ++ escaped rest ≡ total → rest ≡ encode c ++ rest' → o' ≡ o ++
    escape_char c → o' ++ escaped rest' ≡ total
turn o o' rest rest' total c h r n =
    ap (λ (x : List ℕ). x ++ escaped rest') n ∙ append_assoc o (escape_char c) (escaped rest') ∙
    ap (λ (x : List ℕ). o ++ x) (sym (ap escaped r ∙ escaped-char c rest')) ∙ h
