-- Lines of a text, and words at its front.
use Rattle.std.proofs.Common.{◌≡◌, ◌+◌, ◌<◌, ◌≤◌, ◌==◌, ℕ, suc, Bool, true, false, List, [], ◌∷◌, ◌++◌, Some, None}
use Rattle.std.proofs.Common.{arith, refl, sym}
use Rattle.std.proofs.Common.{ap, subst, ◌∙◌, inl, inr, drop, length, nat_eq}
use Rattle.std.proofs.lemmas.Bool.{cases_Bool}
use Rattle.std.proofs.lemmas.List.Splits.{length-slice_split, slice_split_first}
use Rattle.std.proofs.lemmas.List.Sums.{count_by-le-length}
use Rattle.std.proofs.lemmas.Str.Pattern.{starts_text}
use Rattle.std.specs.List.{after_first, before_first, join_with_byte, position_or_len, slice_split, starts_with}
use Rattle.std.specs.Str.{IsCharBoundary}
use Rattle.std.specs.Str.Pattern.{FindsTextPrefix, StripsPrefix}
use Rattle.plir_checks.specs.Lines.{behind_word, lines_of, trimmed}

-- a text has a first line, and the lines of what stands behind its line feed
pub first_of : (text line behind : List ℕ) → position_or_len (λ b. b == 10) text < length text →
    line ≡ before_first (λ b. b == 10) text → behind ≡ after_first (λ b. b == 10) text →
    lines_of text ≡ line ∷ lines_of behind
first_of text line behind below here rest =
    slice_split_first (λ b. b == 10) text 0 below
    ∙ ap (λ z. z ∷ lines_of (after_first (λ b. b == 10) text)) (sym here)
    ∙ ap (λ z. line ∷ lines_of z) (sym rest)

split-none : (p : ℕ → Bool) (xs : List ℕ) → position_or_len p xs ≡ length xs → slice_split p xs ≡ xs ∷ []
split-none p [] e = refl
split-none p (x ∷ xs) e = elim (cases_Bool (p x)) [
  | inl t ↦ (let z : 0 ≡ suc (length xs) = rw t at e in absurd (omega arith))
  | inr f ↦
      (let z : 1 + position_or_len p xs ≡ suc (length xs) = rw f at e in
      let none : position_or_len p xs ≡ length xs = omega arith in
      rw (f, split-none p xs none) refl)
]

-- a text with no line feed is one line
pub only_one : (text : List ℕ) → position_or_len (λ b. b == 10) text ≡ length text → lines_of text ≡ text ∷ []
only_one text e = split-none (λ b. b == 10) text e

-- a text has no more lines than characters, but for one
pub few_lines : (text : List ℕ) → length (lines_of text) ≤ length text + 1
few_lines text =
    omega (arith, length-slice_split (λ b. b == 10) text, count_by-le-length (λ (b : ℕ). b == 10) text)

-- and one at least
pub some_lines : (text : List ℕ) → 0 < length (lines_of text)
some_lines text = omega (arith, length-slice_split (λ b. b == 10) text)

-- lines behind a line feed
pub join-more : (c : ℕ) (x : List ℕ) (xs : List (List ℕ)) → 0 < length xs →
    join_with_byte c (x ∷ xs) ≡ x ++ (c ∷ join_with_byte c xs)
join-more c x [] l = absurd (omega (arith, l))
join-more c x (y ∷ ys) l = refl

-- a word at the front of a text
pub found : (word text x : List ℕ) → StripsPrefix (FindsTextPrefix word) text x →
    (starts_with nat_eq text word ≡ true) × (x ≡ drop (length word) text)
found word text x (n, (long, is, cut), rest, _) = (
  sym (starts_text true word text (n, (long, is, cut), subst (IsCharBoundary text) (sym long) cut)),
  rest ∙ ap (λ k. drop k text) long,
)

pub missing : (word text : List ℕ) → FindsTextPrefix word text None → starts_with nat_eq text word ≡ false
missing word text lacks = sym (starts_text false word text lacks)

pub behind_found : (word text x t : List ℕ) → StripsPrefix (FindsTextPrefix word) text x → t ≡ trimmed x →
    Some t ≡ behind_word word text
behind_found word text x t strips is =
    let f = found word text x strips in
    let whole : t ≡ trimmed (drop (length word) text) = is ∙ ap trimmed f.1 in
    rw (f.0) (ap Some whole)

pub behind_missing : (word text : List ℕ) → FindsTextPrefix word text None → behind_word word text ≡ None
behind_missing word text lacks = rw (missing word text lacks) refl
