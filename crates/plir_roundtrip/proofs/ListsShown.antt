-- Things with commas between them, as they are printed.
use Rattle.std.proofs.Common.{◌≡◌, ℕ, suc, false, List, [], ◌∷◌, codes, length, map, inl, inr, refl, ap}
use Rattle.plir_data.specs.TextParts.{parted, parted_from}
use Rattle.plir_store.specs.Members.{Has}
use Rattle.plir_attr_text.specs.AttrGrammar.{SpellsMore, SpellsSeveral}
use Rattle.plir_attr_text.specs.Terms.{TypeTerm, types_of}
use Rattle.plir_attr_text.specs.Tokens.{Token}
use Rattle.plir_attr_text.specs.TypeGrammar.{SpellsType, SpellsTypes, SpellsMoreTypes}
use Rattle.plir_attr_text.specs.laws.Runs.{Run, Shown, Tail, nothing, behind_first, behind_comma}
use Rattle.plir_read_own.specs.OwnTerms.{num_types}
use Rattle.plir_roundtrip.proofs.Joined.{both-shown}

-- things that stand for others, as each of them is written
module _ {X Y : Type 0} (E : Y → List Token → Type 0) (term : X → Y) (write : X → List ℕ) where
  more-shown : (xs : List X) → ((x : X) → Has xs x → Shown (E (term x)) (write x))
      → Tail (SpellsMore E (map term xs)) (parted_from false (codes ", ") write xs)
  more-shown [] each = nothing
  more-shown (x ∷ xs) each = behind_comma (each x (inl refl)) (more-shown xs (λ y h. each y (inr h)))

  pub several-shown : (xs : List X) → ((x : X) → Has xs x → Shown (E (term x)) (write x))
      → Run (SpellsSeveral E (map term xs)) (parted (codes ", ") write xs)
  several-shown [] each = nothing.run
  several-shown (x ∷ xs) each = behind_first (each x (inl refl)) (more-shown xs (λ y h. each y (inr h)))

  -- one at least
  pub some-shown : (x : X) (xs : List X) → ((y : X) → Has (x ∷ xs) y → Shown (E (term y)) (write y))
      → Shown (SpellsSeveral E (map term (x ∷ xs))) (parted (codes ", ") write (x ∷ xs))
  some-shown x xs each = both-shown (more-shown xs (λ y h. each y (inr h))) (each x (inl refl))

-- types
module _ {X : Type 0} (term : X → TypeTerm) (write : X → List ℕ) where
  more_types-shown : (xs : List X) → ((x : X) → Has xs x → Shown (SpellsType (term x)) (write x))
      → Tail (SpellsMoreTypes (types_of (map term xs))) (parted_from false (codes ", ") write xs)
  more_types-shown [] each = nothing
  more_types-shown (x ∷ xs) each = behind_comma (each x (inl refl)) (more_types-shown xs (λ y h. each y (inr h)))

  pub types-shown : (xs : List X) → ((x : X) → Has xs x → Shown (SpellsType (term x)) (write x))
      → Run (SpellsTypes (types_of (map term xs))) (parted (codes ", ") write xs)
  types-shown [] each = nothing.run
  types-shown (x ∷ xs) each = behind_first (each x (inl refl)) (more_types-shown xs (λ y h. each y (inr h)))

-- as many types as names
pub as_many : {X Y : Type 0} (name : X → Y) (term : X → TypeTerm) (xs : List X)
    → length (map name xs) ≡ num_types (types_of (map term xs))
as_many name term [] = refl
as_many name term (x ∷ xs) = ap (λ n. suc n) (as_many name term xs)
