-- The lines of an input, as far as a loop has come.
use Rattle.std.proofs.Common.{◌≡◌, ℕ, suc, ◌+◌, ◌<◌, ◌≤◌, Bool, true, false, List, [], ◌∷◌, ◌++◌, length, take, get_or}
use Rattle.std.proofs.Common.{map, cond, Bor, arith, refl, sym, ap, ◌∙◌}
use Rattle.std.proofs.lemmas.List.{append_assoc, map-append, length-map, length-take}
use Rattle.std.proofs.Math.Seq.{take-suc}
use Rattle.std.specs.List.{join_with_byte, onto_first, slice_split}
use Rattle.plir_driver.specs.Parts.{is_mark, lines_of, parts_of}

-- one more line behind others
join-push : (c : ℕ) (xs : List (List ℕ)) (y : List ℕ) → 0 < length xs →
    join_with_byte c (xs ++ y ∷ []) ≡ join_with_byte c xs ++ (c ∷ y)
join-push c [] y l = absurd (omega (arith, l))
join-push c (x ∷ []) y l = refl
join-push c (x ∷ z ∷ xs) y l =
    ap (λ w. x ++ (c ∷ w)) (join-push c (z ∷ xs) y (omega arith))
    ∙ sym (append_assoc x (c ∷ join_with_byte c (z ∷ xs)) (c ∷ y))

module _ (ls : List (Bor (List ℕ))) (i : ℕ) (d : Bor (List ℕ)) where
  -- those up to a place, and the one there
  more : i < length ls →
      map (λ l. l.now) (take (i + 1) ls) ≡ map (λ l. l.now) (take i ls) ++ (get_or ls i d).now ∷ []
  more below =
      let next : i + 1 ≡ suc i = omega arith in
      ap (map (λ l. l.now)) (ap (λ k. take k ls) next ∙ take-suc ls i d below)
      ∙ map-append (λ l. l.now) (take i ls) (get_or ls i d ∷ [])

  -- the first line
  pub joined_first : (was mid put : List ℕ) → i < length ls →
      was ≡ join_with_byte 10 (map (λ l. l.now) (take i ls)) → i ≤ 0 → mid ≡ was →
      put ≡ mid ++ (get_or ls i d).now → put ≡ join_with_byte 10 (map (λ l. l.now) (take (i + 1) ls))
  joined_first was mid put below so_far none same here =
      let zeroth : i ≡ 0 = omega arith in
      let nothing = ap (λ k. join_with_byte 10 (map (λ (l : Bor (List ℕ)). l.now) (take k ls))) zeroth in
      let front = ap (λ k. map (λ (l : Bor (List ℕ)). l.now) (take k ls)) zeroth in
      here ∙ ap (λ z. z ++ (get_or ls i d).now) (same ∙ so_far ∙ nothing)
      ∙ sym (ap (join_with_byte 10) (more below ∙ ap (λ z. z ++ (get_or ls i d).now ∷ []) front))

  -- a later one, behind a line feed
  pub joined_next : (was mid put : List ℕ) → i < length ls →
      was ≡ join_with_byte 10 (map (λ l. l.now) (take i ls)) → 0 < i → mid ≡ was ++ 10 ∷ [] →
      put ≡ mid ++ (get_or ls i d).now → put ≡ join_with_byte 10 (map (λ l. l.now) (take (i + 1) ls))
  joined_next was mid put below so_far some fed here =
      let front = map (λ (l : Bor (List ℕ)). l.now) (take i ls) in
      let line = (get_or ls i d).now in
      let as_many = length-map {A = Bor (List ℕ)} {B = List ℕ} (take i ls) (λ l. l.now) in
      let there : 0 < length front = omega (arith, as_many, length-take i ls) in
      here ∙ ap (λ z. z ++ line) (fed ∙ ap (λ z. z ++ 10 ∷ []) so_far)
      ∙ append_assoc (join_with_byte 10 front) (10 ∷ []) line
      ∙ sym (ap (join_with_byte 10) (more below) ∙ join-push 10 front line there)

map-map : {A B C : Type 0} (f : B → C) (g : A → B) (xs : List A) → map f (map g xs) ≡ map (λ x. f (g x)) xs
map-map f g [] = refl
map-map f g (x ∷ xs) = ap (λ z. f (g x) ∷ z) (map-map f g xs)

-- what is cut and then read is what is read and then cut
onto-map : {A B : Type 0} (f : A → B) (x : A) (ps : List (List A)) →
    map (map f) (onto_first x ps) ≡ onto_first (f x) (map (map f) ps)
onto-map f x [] = refl
onto-map f x (p ∷ ps) = refl

cut-one : {A B : Type 0} (f : A → B) (b : Bool) (x : A) (ps : List (List A)) (qs : List (List B)) →
    map (map f) ps ≡ qs →
    map (map f) (cond b ([] ∷ ps) (onto_first x ps)) ≡ cond b ([] ∷ qs) (onto_first (f x) qs)
cut-one f true x ps qs e = ap (λ z. [] ∷ z) e
cut-one f false x ps qs e = onto-map f x ps ∙ ap (onto_first (f x)) e

cut-map : {A B : Type 0} (f : A → B) (p : B → Bool) (xs : List A) →
    map (map f) (slice_split (λ x. p (f x)) xs) ≡ slice_split p (map f xs)
cut-map f p [] = refl
cut-map f p (x ∷ xs) =
    cut-one f (p (f x)) x (slice_split (λ y. p (f y)) xs) (slice_split p (map f xs)) (cut-map f p xs)

-- the parts are those of the input
pub parts_are : {X : Type 0} (bytes : List ℕ) (lines lines' : List (Bor (List ℕ)))
    (cuts cuts' : List (Bor (List (Bor (List ℕ))))) (held : X → List ℕ) (parts : List X) →
    map (λ l. l.now) lines ≡ lines_of bytes → lines' ≡ lines →
    map (λ p. p.now) cuts ≡ slice_split (λ l. is_mark l.now) lines' → cuts' ≡ cuts →
    map held parts ≡ map (λ p. join_with_byte 10 (map (λ l. l.now) p.now)) cuts' → map held parts ≡ parts_of bytes
parts_are bytes lines lines' cuts cuts' held parts are_lines same_lines are_cuts same_cuts are_held =
    let read = λ (ls : List (Bor (List ℕ))). map (λ (l : Bor (List ℕ)). l.now) ls in
    are_held
    ∙ ap (map (λ (p : Bor (List (Bor (List ℕ)))). join_with_byte 10 (read p.now))) same_cuts
    ∙ sym (map-map (join_with_byte 10) (λ (p : Bor (List (Bor (List ℕ)))). read p.now) cuts)
    ∙ ap (map (join_with_byte 10)) (sym (map-map read (λ (p : Bor (List (Bor (List ℕ)))). p.now) cuts)
    ∙ ap (map read) (are_cuts ∙ ap (slice_split (λ (l : Bor (List ℕ)). is_mark l.now)) same_lines)
    ∙ cut-map (λ (l : Bor (List ℕ)). l.now) is_mark lines
    ∙ ap (slice_split is_mark) are_lines)
