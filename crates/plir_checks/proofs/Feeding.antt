-- The lines of a text with spaces for its comments are its lines, with spaces for comments.
use Rattle.std.proofs.Common.{◌≡◌, ◌<◌, ◌==◌, ℕ, zero, suc, Bool, true, false, List, [], ◌∷◌, All, arith, refl, sym}
use Rattle.std.proofs.Common.{ap, ◌∙◌}
use Rattle.std.proofs.Common.{chars, cond, is_some, length, map, subst}
use Rattle.std.proofs.lemmas.List.{length-map}
use Rattle.std.proofs.lemmas.List.Elements.{All-cons, All-head, All-nil, All-tail}
use Rattle.std.proofs.lemmas.List.Splits.{slice_split_at, slice_split_none}
use Rattle.std.specs.List.{join_with_byte, onto_first}
use Rattle.plir_checks.specs.Comments.{blanked, blanked_line, spaces}
use Rattle.plir_checks.specs.Lines.{comment_of, lines_of}
use Rattle.plir_checks.proofs.Fronts.{some_lines}

-- a line has no line feed
abbrev IsFree : List ℕ → Type 0
IsFree line = All (λ b. (b == 10) ≡ false) line

cons : (x : List ℕ) (xs : List (List ℕ)) → IsFree x → All IsFree xs → All IsFree (x ∷ xs)
cons x xs h t = All-cons IsFree x xs h t

onto : (b : ℕ) (ls : List (List ℕ)) → (b == 10) ≡ false → All IsFree ls → All IsFree (onto_first b ls)
onto b [] free all =
    cons (b ∷ []) [] (All-cons (λ b. (b == 10) ≡ false) b [] free (All-nil (λ b. (b == 10) ≡ false))) all
onto b (l ∷ ls) free all =
    cons (b ∷ l) ls (All-cons (λ b. (b == 10) ≡ false) b l free (All-head IsFree l ls all)) (All-tail IsFree l ls all)

lines-free : (text : List ℕ) → All IsFree (lines_of text)
lines-free [] = cons [] [] (All-nil (λ b. (b == 10) ≡ false)) (All-nil IsFree)
lines-free (b ∷ bs) = by (b == 10) refl (lines-free bs)
  where
    by : (v : Bool) → (b == 10) ≡ v → All IsFree (lines_of bs) → All IsFree (lines_of (b ∷ bs))
    by true e more =
        subst (All IsFree) (sym (ap (λ v. cond v ([] ∷ lines_of bs) (onto_first b (lines_of bs))) e))
        (cons [] (lines_of bs) (All-nil (λ b. (b == 10) ≡ false)) more)
    by false e more =
        subst (All IsFree) (sym (ap (λ v. cond v ([] ∷ lines_of bs) (onto_first b (lines_of bs))) e))
        (onto b (lines_of bs) e more)

-- lines with line feeds between them
lines-join : (ls : List (List ℕ)) → 0 < length ls → All IsFree ls → lines_of (join_with_byte 10 ls) ≡ ls
lines-join [] some free = absurd (omega (arith, some))
lines-join (l ∷ []) some free = slice_split_none (λ b. b == 10) l (All-head IsFree l [] free)
lines-join (l ∷ m ∷ ms) some free =
    slice_split_at (λ b. b == 10) l 10 (join_with_byte 10 (m ∷ ms)) (All-head IsFree l (m ∷ ms) free) refl
    ∙ ap (λ z. l ∷ z) (lines-join (m ∷ ms) (omega arith) (All-tail IsFree l (m ∷ ms) free))

spaces-free : (n : ℕ) → IsFree (spaces n)
spaces-free zero = All-nil (λ b. (b == 10) ≡ false)
spaces-free (suc n) = All-cons (λ b. (b == 10) ≡ false) 32 (spaces n) refl (spaces-free n)

blank-free : (line : List ℕ) → IsFree line → IsFree (blanked_line line)
blank-free line free = by (is_some (comment_of line)) refl
  where
    by : (v : Bool) → is_some (comment_of line) ≡ v → IsFree (blanked_line line)
    by true e =
        subst IsFree (sym (ap (λ v. cond v (spaces (length (chars line))) line) e))
        (spaces-free (length (chars line)))
    by false e = subst IsFree (sym (ap (λ v. cond v (spaces (length (chars line))) line) e)) free

map-free : (ls : List (List ℕ)) → All IsFree ls → All IsFree (map blanked_line ls)
map-free [] free = All-nil IsFree
map-free (l ∷ ls) free =
    cons (blanked_line l) (map blanked_line ls) (blank-free l (All-head IsFree l ls free))
    (map-free ls (All-tail IsFree l ls free))

pub lines-blanked : (text bytes : List ℕ) → bytes ≡ blanked text → lines_of bytes ≡ map blanked_line (lines_of text)
lines-blanked text bytes e =
    let some : 0 < length (map blanked_line (lines_of text)) =
    omega (arith, length-map {A = List ℕ} {B = List ℕ} (lines_of text) blanked_line, some_lines text) in
    ap lines_of e
    ∙ lines-join (map blanked_line (lines_of text)) some (map-free (lines_of text) (lines-free text))
