-- The first place of a word in a text.
use Rattle.std.proofs.Common.{◌≡◌, ◌<◌, ◌≤◌, ◌==◌, ℕ, zero, suc, Bool, true, false, List, [], ◌∷◌, ◌++◌, Some, None}
use Rattle.std.proofs.Common.{arith, refl, sym, ap, ◌∙◌, drop, take, length, nat_eq, is_some, MatchBool, length-take}
use Rattle.std.proofs.Math.Seq.{drop-append_seam, take-append_seam}
use Rattle.std.proofs.lemmas.Str.Pattern.{starts_text}
use Rattle.std.specs.List.{starts_with}
use Rattle.std.specs.Str.Pattern.{FindsText, HasMatch, LacksTextAt, SplitsAroundMatch}
use Rattle.plir_checks.specs.Cuts.{cut_at, has_word}
use Rattle.plir_checks.specs.Expecting.{word_and_text}
use Rattle.plir_checks.specs.Lines.{trimmed}
use lib.Pointwise.{bytes_decides}

-- a text begins with a word
starts_yes : (word text rest : List ℕ) → text ≡ word ++ rest → starts_with nat_eq text word ≡ true
starts_yes word text rest e =
    (bytes_decides word (take (length word) text)).1
    (sym (ap (take (length word)) e ∙ take-append_seam word rest))

starts_no : (word text : List ℕ) → LacksTextAt word text 0 → starts_with nat_eq text word ≡ false
starts_no word text lacks = sym (starts_text false word text lacks)

behind_start : (word text rest : List ℕ) → text ≡ word ++ rest → drop (length word) text ≡ rest
behind_start word text rest e = ap (drop (length word)) e ∙ drop-append_seam word rest

-- the first place of a word
cut_here : (word text : List ℕ) (i : ℕ) (rest : List ℕ) → i ≤ length text →
    ((k : ℕ) → k < i → LacksTextAt word text k) → drop i text ≡ word ++ rest →
    cut_at word text ≡ Some (take i text, rest)
cut_here word [] zero rest l lack e =
    rw (starts_yes word [] rest e) (ap (λ z. Some ([], z)) (empty word rest e))
  where
    empty : (xs ys : List ℕ) → [] ≡ xs ++ ys → [] ≡ ys
    empty [] ys h = h
    empty (x ∷ xs) ys h = absurd (omega (arith, ap length h))
cut_here word [] (suc i) rest l lack e = absurd (omega (arith, l))
cut_here word (b ∷ bs) zero rest l lack e =
    rw (starts_yes word (b ∷ bs) rest e) (ap (λ z. Some ([], z)) (behind_start word (b ∷ bs) rest e))
cut_here word (b ∷ bs) (suc i) rest l lack e =
    let first = starts_no word (b ∷ bs) (lack 0 (omega arith)) in
    let further = cut_here word bs i rest (omega (arith, l)) (λ k below. lack (suc k) (omega (arith, below))) e in
    rw (first, further) refl

cut_nowhere : (word text : List ℕ) → ((i : ℕ) → i ≤ length text → LacksTextAt word text i) → cut_at word text ≡ None
cut_nowhere word [] lack = rw (starts_no word [] (lack 0 (omega arith))) refl
cut_nowhere word (b ∷ bs) lack =
    let first = starts_no word (b ∷ bs) (lack 0 (omega arith)) in
    let further = cut_nowhere word bs (λ i below. lack (suc i) (omega (arith, below))) in
    rw (first, further) refl

-- what `split_once` says
pub cut_around : (word text x y : List ℕ) → SplitsAroundMatch (FindsText word) text x y → cut_at word text ≡ Some (x, y)
cut_around word text x y (i, j, (lack, at), front, back, below, long, _) =
    let l : i ≤ length text = omega (arith, length-take i text, ap length front, long) in
    cut_here word text i (drop j text) l lack at.split
    ∙ ap (λ z. Some (z, drop j text)) (sym front) ∙ ap (λ z. Some (x, z)) (sym back)

pub cut_none : (word text : List ℕ) → FindsText word text None → cut_at word text ≡ None
cut_none word text lack = cut_nowhere word text lack

-- what `contains` says
pub has_word_is : (r : Bool) (word text : List ℕ) →
    MatchBool r (HasMatch (FindsText word) text) (FindsText word text None) → r ≡ has_word word text
has_word_is true word text (i, j, (lack, at), below, long) =
    sym (ap is_some (cut_here word text i (drop j text) (omega arith) lack at.split))
has_word_is false word text lack = sym (ap is_some (cut_none word text lack))

-- what stands before the braces and between them
pub no_open : (told : List ℕ) → cut_at (123 ∷ 123 ∷ []) told ≡ None → word_and_text told ≡ None
no_open told e = rw e refl

pub no_close : (told word behind : List ℕ) → cut_at (123 ∷ 123 ∷ []) told ≡ Some (word, behind) →
    cut_at (125 ∷ 125 ∷ []) behind ≡ None → word_and_text told ≡ None
no_close told word behind e d = rw (e, d) refl

module _ (told word behind text tail : List ℕ) (opens : cut_at (123 ∷ 123 ∷ []) told ≡ Some (word, behind))
    (closes : cut_at (125 ∷ 125 ∷ []) behind ≡ Some (text, tail)) where
  pub no_end : false ≡ (length tail == 0) → word_and_text told ≡ None
  no_end more = rw (opens, closes, ← more) refl

  pub whole : (t : List ℕ) → true ≡ (length tail == 0) → t ≡ trimmed word → word_and_text told ≡ Some (t, text)
  whole t none is = rw (opens, closes, ← none) (ap (λ z. Some (z, text)) (sym is))
