-- Lists that are taken from other lists.
use Rattle.std.specs.Prelude.{◌≡◌, ◌↔◌, ◌≤◌, ◌⊎◌, ℕ, List, [], ◌∷◌, ◌++◌, Bool, cond, length, take}
use Rattle.std.specs.List.{flat_map, list_any}
use Rattle.plir_store.specs.Members.{Has, Distinct}

-- ys are those of xs that P holds for, in order
abbrev pub AreThose : {A : Type 0} → (P : A → Type 0) → (xs ys : List A) → Type 0
AreThose P [] ys = ys ≡ []
AreThose {A} P (x ∷ xs) ys = (P x × ((zs : List A) × ((ys ≡ x ∷ zs) × AreThose P xs zs))) ⊎
    ((P x → ⊥) × AreThose P xs ys)

-- ys has each element of xs once, in the order in which they first stand in xs: what stands in a beginning of xs is
-- what stands in a beginning of ys.
pub record IsOnceEach {A : Type 0} (xs ys : List A) : Type 0 where
  pub once : Distinct ys
  pub same : (x : A) → Has ys x ↔ Has xs x
  pub order : (n : ℕ) → (m : ℕ) × ((m ≤ length ys) × ((x : A) → Has (take m ys) x ↔ Has (take n xs) x))

-- a list with x put behind it, if nothing that is equal to x stands in it
abbrev pub put_once : {A : Type 0} → (eq : A → A → Bool) → List A → A → List A
put_once eq ys x = cond (list_any (eq x) ys) ys (ys ++ x ∷ [])

-- ys has, once each and in the order in which they first come, what f gives of those of xs that P holds for
abbrev pub AreTakenOnce : {A B : Type 0} → (P : A → Type 0) (f : A → List B) (xs : List A) (ys : List B) → Type 0
AreTakenOnce {A} P f xs ys = (those : List A) × (AreThose P xs those × IsOnceEach (flat_map f those) ys)
