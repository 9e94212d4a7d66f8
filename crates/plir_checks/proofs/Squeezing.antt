-- Blanks as one space, as far as a loop has come.
use Rattle.std.proofs.Common.{◌≡◌, ◌≢◌, ◌+◌, ◌-◌, ◌<◌, ◌≤◌, ◌||◌, ◌&&◌, ℕ, suc, Bool, true, false, List, [], ◌∷◌}
use Rattle.std.proofs.Common.{arith, refl, sym, ap, ◌∙◌, inl, inr, cond, drop, take, length, nat_eq, get_or}
use Rattle.std.proofs.Common.{length-drop, drop-cons}
use Rattle.std.proofs.lemmas.Bool.{cases_Bool, eq-eqb, eqb-true}
use Rattle.std.proofs.lemmas.List.{take_all}
use Rattle.std.specs.Char.{is_ascii_whitespace}
use Rattle.std.specs.List.{prefix_len, starts_with}
use Rattle.plir_checks.specs.Blanks.{begins, has_text, squeezed, squeezed_behind}
use Rattle.plir_checks.specs.Lines.{behind_blanks}

-- one byte
shown : (v : Bool) (b : ℕ) (bs : List ℕ) → is_ascii_whitespace b ≡ v →
    squeezed (b ∷ bs) ≡ cond v (32 ∷ squeezed_behind true bs) (b ∷ squeezed bs)
shown v b bs e = ap (λ v. cond v (32 ∷ squeezed_behind true bs) (b ∷ squeezed bs)) e

hidden : (v : Bool) (b : ℕ) (bs : List ℕ) → is_ascii_whitespace b ≡ v →
    squeezed_behind true (b ∷ bs) ≡ cond v (squeezed_behind true bs) (b ∷ squeezed bs)
hidden v b bs e = ap (λ v. cond v (squeezed_behind true bs) (b ∷ squeezed bs)) e

past : (v : Bool) (b : ℕ) (bs : List ℕ) → is_ascii_whitespace b ≡ v →
    behind_blanks (b ∷ bs) ≡ cond v (behind_blanks bs) (b ∷ bs)
past true b bs e =
    let one : 1 + prefix_len is_ascii_whitespace bs ≡ suc (prefix_len is_ascii_whitespace bs) = omega arith in
    ap (λ v. drop (cond v (1 + prefix_len is_ascii_whitespace bs) 0) (b ∷ bs)) e ∙ ap (λ k. drop k (b ∷ bs)) one
past false b bs e = ap (λ v. drop (cond v (1 + prefix_len is_ascii_whitespace bs) 0) (b ∷ bs)) e

-- behind a blank all further ones are nothing
behind_one : (bs : List ℕ) → squeezed_behind true bs ≡ squeezed (behind_blanks bs)
behind_one [] = refl
behind_one (b ∷ bs) = by (is_ascii_whitespace b) refl (behind_one bs)
  where
    by : (v : Bool) → is_ascii_whitespace b ≡ v → squeezed_behind true bs ≡ squeezed (behind_blanks bs) →
        squeezed_behind true (b ∷ bs) ≡ squeezed (behind_blanks (b ∷ bs))
    by true e more = hidden true b bs e ∙ more ∙ ap squeezed (sym (past true b bs e))
    by false e more = hidden false b bs e ∙ sym (shown false b bs e) ∙ ap squeezed (sym (past false b bs e))

-- what stands from a place on
pub from_on : (k : ℕ) (bs : List ℕ) → take (length bs - k) (drop k bs) ≡ drop k bs
from_on k bs = take_all (length bs - k) (drop k bs) (omega (arith, length-drop k bs))

pub blank_first : (bs r : List ℕ) → 1 ≤ length bs → is_ascii_whitespace (get_or bs 0 0) ≡ true →
    r ≡ behind_blanks (drop 1 bs) → (squeezed bs ≡ 32 ∷ squeezed r) × (length r < length bs)
blank_first [] r l blank e = absurd (omega (arith, l))
blank_first (b ∷ bs) r l blank e = (
  shown true b bs blank ∙ ap (λ z. 32 ∷ z) (behind_one bs ∙ ap squeezed (sym e)),
  omega (arith, ap length e, length-drop (prefix_len is_ascii_whitespace bs) bs),
)

-- a line with what is sought at its next byte
pub begins_next : (line text rest others : List ℕ) (wanted : ℕ) → squeezed text ≡ wanted ∷ squeezed others →
    squeezed line ≡ wanted ∷ squeezed rest → begins rest others ≡ begins line text
begins_next line text rest others wanted t l =
    sym (ap (λ z. starts_with nat_eq z (squeezed text)) l ∙ ap (starts_with nat_eq (wanted ∷ squeezed rest)) t ∙ same)
  where
    same : starts_with nat_eq (wanted ∷ squeezed rest) (wanted ∷ squeezed others) ≡ begins rest others
    same = ap (λ v. v && begins rest others) (eq-eqb wanted wanted refl)

other_front : (xs : List ℕ) (w : ℕ) (ns : List ℕ) → ((rest : List ℕ) → xs ≢ w ∷ rest) →
    starts_with nat_eq xs (w ∷ ns) ≡ false
other_front [] w ns lacks = refl
other_front (x ∷ xs) w ns lacks = elim (cases_Bool (nat_eq w x)) [
  | inl t ↦ absurd (lacks xs (ap (λ z. z ∷ xs) (sym (eqb-true w x t))))
  | inr f ↦ ap (λ v. v && starts_with nat_eq xs ns) f
]

pub begins_not : (line text others : List ℕ) (wanted : ℕ) → squeezed text ≡ wanted ∷ squeezed others →
    ((rest : List ℕ) → squeezed line ≢ wanted ∷ rest) → begins line text ≡ false
begins_not line text others wanted t lacks =
    ap (starts_with nat_eq (squeezed line)) t ∙ other_front (squeezed line) wanted (squeezed others) lacks

pub begins_all : (line text : List ℕ) → squeezed text ≡ [] → begins line text ≡ true
begins_all line text none = ap (starts_with nat_eq (squeezed line)) none

-- a text that does not stand at a place stands behind it or nowhere
pub has_next : (line text : List ℕ) (k : ℕ) → k < length line → begins (drop k line) text ≡ false →
    has_text (drop (k + 1) line) text ≡ has_text (drop k line) text
has_next line text k below not_here =
    let here : drop k line ≡ get_or line k 0 ∷ drop (suc k) line = drop-cons line k 0 below in
    let one : k + 1 ≡ suc k = omega arith in
    ap (λ j. has_text (drop j line) text) one
    ∙ sym (ap (λ z. has_text z text) here
    ∙ ap (λ v. v || has_text (drop (suc k) line) text) (ap (λ z. begins z text) (sym here) ∙ not_here))

pub has_here : (line text : List ℕ) → begins line text ≡ true → has_text line text ≡ true
has_here [] text here = here
has_here (b ∷ bs) text here = ap (λ v. v || has_text bs text) here
