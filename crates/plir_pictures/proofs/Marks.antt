-- Labels, by bytes and by characters.
use Rattle.std.proofs.Common.{◌≡◌, ℕ, suc, ◌<◌, ◌≤◌, Bool, true, false, cond, nat_eq, nat_lt, List, [], ◌∷◌, ◌++◌}
use Rattle.std.proofs.Common.{length, get_or, refl, sym, ap, ◌∙◌, arith, inl, inr, append_assoc, append-nil}
use Rattle.std.proofs.{Math.Utf8.encode, lemmas.Bool.cases_lt, lemmas.Bool.ltb-false, lemmas.Bool.Decides.nat_tests}
use Rattle.std.proofs.{lemmas.Bool.Decides.Decides-ltb, lemmas.Str.inside_one, lemmas.Str.encode_ascii}
use Rattle.plir_pictures.specs.Labels.{label_text, mark_of, mark_of_char}

-- a byte of a character that is no ASCII character stands for itself
differs : (b k : ℕ) → k < 128 → 128 ≤ b → nat_eq b k ≡ false
differs b k p q = grind (arith, nat_tests)

plain : (b : ℕ) → 128 ≤ b → mark_of b ≡ b ∷ []
plain b q =
    rw (
      differs b 38 (omega arith) q,
      differs b 60 (omega arith) q,
      differs b 62 (omega arith) q,
      differs b 10 (omega arith) q,
    ) refl

plain-run : (xs r : List ℕ) → ((k : ℕ) → k < length xs → 128 ≤ get_or xs k 0)
    → label_text (xs ++ r) ≡ xs ++ label_text r
plain-run [] r h = refl
plain-run (x ∷ xs) r h =
    rw (plain x (h 0 (omega arith)))
    (ap (λ (y : List ℕ). x ∷ y) (plain-run xs r (λ k lt. h (suc k) (omega arith))))

byte-large : (c k : ℕ) → 128 ≤ c → k < length (encode c) → 128 ≤ get_or (encode c) k 0
byte-large c k q lt =
    elim (cases_lt (get_or (encode c) k 0) 128) [
      | inl small ↦ let same : c ≡ get_or (encode c) k 0 =
          inside_one c [] (encode c) k (sym (append-nil (encode c))) lt small in absurd (omega arith)
      | inr large ↦ large
    ]

-- a character, and what stands behind it
label-char : (c : ℕ) (r : List ℕ) → label_text (encode c ++ r) ≡ mark_of_char c ++ label_text r
label-char c r = at (nat_lt c 128) refl
  where
    at : (t : Bool) → nat_lt c 128 ≡ t → label_text (encode c ++ r) ≡ cond t (mark_of c) (encode c) ++ label_text r
    at true e = ap (λ (x : List ℕ). label_text (x ++ r)) (encode_ascii c ((Decides-ltb c 128).0 e))
    at false e = plain-run (encode c) r (λ k lt. byte-large c k (ltb-false c 128 e) lt)

-- one turn of a loop over the characters
pub turn : (o o' rest rest' total : List ℕ) (c : ℕ) → o ++ label_text rest ≡ total → rest ≡ encode c ++ rest'
    → o' ≡ o ++ mark_of_char c → o' ++ label_text rest' ≡ total
turn o o' rest rest' total c h r n =
    ap (λ (x : List ℕ). x ++ label_text rest') n ∙ append_assoc o (mark_of_char c) (label_text rest') ∙
    ap (λ (x : List ℕ). o ++ x) (sym (ap label_text r ∙ label-char c rest')) ∙ h

-- a label was put of a text that is known
pub labelled : (old new t u : List ℕ) → new ≡ old ++ label_text t → t ≡ u → new ≡ old ++ label_text u
labelled old new t u p same = p ∙ ap (λ z. old ++ label_text z) same
