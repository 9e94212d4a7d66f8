-- Handles below one, and the text of a type as it was read.
use Rattle.std.proofs.Common.{◌≡◌, ℕ, zero, suc, ◌<◌, ◌≤◌, max, List, [], ◌∷◌, ◌++◌, length, get_or, map}
use Rattle.std.proofs.Common.{All, Some, sym, ap, subst, ◌∙◌, arith}
use Rattle.std.specs.Prelude.{Contains}
use Rattle.std.proofs.lemmas.List.Elements.{All-cons, All-head, All-nil, All-tail}
use Rattle.plir_data.specs.OwnParts.{Part, chars, held, held_in}
use Rattle.plir_data.specs.TypeSeen.{type_view}
use Rattle.plir_data.specs.TypeText.{type_text, type_text_over}
use Rattle.plir_data.specs.Types.{TypeView, IsTypeTable, handles_of, type_at}
use Rattle.plir_data.specs.declared.types.TypeObj.{TypeObj}
use Rattle.plir_data.proofs.TypeTrees.{all_included, type_text-over}

-- one more than the largest
abbrev pub above_all : List ℕ → ℕ
above_all [] = 0
above_all (n ∷ ns) = max (suc n) (above_all ns)

pub above_each : (ns : List ℕ) (i d : ℕ) → i < length ns → get_or ns i d < above_all ns
above_each [] i d within = absurd (omega (arith, within))
above_each (n ∷ ns) zero d within = omega arith
above_each (n ∷ ns) (suc i) d within = omega (arith, above_each ns i d (omega (arith, within)))

pub above_all_upto : (ns : List ℕ) (n : ℕ) → All (λ k. k < n) ns → above_all ns ≤ n
above_all_upto [] n all = omega arith
above_all_upto (k ∷ ns) n all = omega (
  arith,
  all 0 0 (omega arith),
  above_all_upto ns n
      (λ i d p. all (suc i) d (omega (arith, p))),
)

pub above_left : (ms ns : List ℕ) → above_all ms ≤ above_all (ms ++ ns)
above_left [] ns = omega arith
above_left (m ∷ ms) ns = omega (arith, above_left ms ns)

pub above_right : (ms ns : List ℕ) → above_all ns ≤ above_all (ms ++ ns)
above_right [] ns = omega arith
above_right (m ∷ ms) ns = omega (arith, above_right ms ns)

-- The handles in parts are below what those that a type holds are below.
pub above_held : (xs ys : List ℕ) → ((h : ℕ) → Contains xs h → Contains ys h) → above_all xs ≤ above_all ys
above_held xs ys included = above_all_upto xs (above_all ys)
    (all_included (λ k. k < above_all ys) xs ys included (λ i d within. above_each ys i d within))

-- What holds of the handles in parts holds of those in the first of them, and in the others.
first_held : (P : ℕ → Type 0) (p : Part) (ps : List Part) → All P (held_in (p ∷ ps)) → All P (held_in (p ∷ []))
first_held P (chars s) ps all = All-nil P
first_held P (held h) ps all = All-cons P h [] (All-head P h (held_in ps) all) (All-nil P)

others_held : (P : ℕ → Type 0) (p : Part) (ps : List Part) → All P (held_in (p ∷ ps)) → All P (held_in ps)
others_held P (chars s) ps all = all
others_held P (held h) ps all = All-tail P h (held_in ps) all

module _ {X : Type 0} (see : X → Part) where
  -- so it holds of those in the part at a place
  pub held_at : (P : ℕ → Type 0) (xs : List X) (i : ℕ) (d : X) → i < length xs → All P (held_in (map see xs)) →
      All P (held_in (see (get_or xs i d) ∷ []))
  held_at P [] i d within all = absurd (omega (arith, within))
  held_at P (x ∷ xs) zero d within all = first_held P (see x) (map see xs) all
  held_at P (x ∷ xs) (suc i) d within all =
      held_at P xs i d (omega (arith, within)) (others_held P (see x) (map see xs) all)

  pub above_at : (xs : List X) (i : ℕ) (d : X) → i < length xs →
      above_all (held_in (see (get_or xs i d) ∷ [])) ≤ above_all (held_in (map see xs))
  above_at xs i d within =
      let all = held_in (map see xs) in
      above_all_upto (held_in (see (get_or xs i d) ∷ [])) (above_all all)
      (held_at (λ k. k < above_all all) xs i d within (λ j e p. above_each all j e p))

-- The type of a handle as it was read: its text, and that it holds smaller handles alone.
module _ {D K A T E : Type 0} (own_handles : T → List ℕ) (types table : List (TypeView T)) (h : ℕ)
    (x y : TypeObj D K A T E) where
  pub read_text : (own_id : T → List ℕ) (own_body : T → List Part) → ((t : T) (h : ℕ) →
      Contains (held_in (own_body t)) h → Contains (own_handles t) h) → table ≡ types →
      type_at table h ≡ Some (type_view x) → IsTypeTable own_handles table → x ≡ y →
      type_text own_id own_body types h ≡ type_text_over own_id own_body types (type_view y)
  read_text own_id own_body own_held same at whole is =
      type_text-over own_handles types (subst (IsTypeTable own_handles) same whole) own_id own_body own_held h
      (type_view y) (ap (λ ts. type_at ts h) (sym same) ∙ at ∙ ap (λ z. Some (type_view z)) is)

  pub read_below : type_at table h ≡ Some (type_view x) → IsTypeTable own_handles table → x ≡ y → All
      (λ k. k < h) (handles_of own_handles (type_view y))
  read_below at whole is = whole.before (type_view y) h (at ∙ ap (λ z. Some (type_view z)) is)
