-- Lists, pointers and nodes: what is told apart, and what stands in a list at which place.
use Rattle.std.proofs.Common.{◌≡◌, ℕ, zero, suc, ◌+◌, ◌<◌, arith, Bool, true, false, true≢false, ◌⊎◌, inl, inr, refl, sym}
use Rattle.std.proofs.Common.{ap, subst, ◌∙◌, List, [], ◌∷◌, ◌++◌, length, take, drop, Some}
use Rattle.std.specs.Prelude.{slice_get, slice_set, remove, slice_index_or, nat_eq, ◌&&◌, eqb, ◌↔◌, IsTrue}
use Rattle.std.specs.Cmp.{unsigned_Decides}
use Rattle.std.proofs.lemmas.Option.{none-some, same_Some, slice_get-get_or}
use Rattle.plir_store.specs.Members.{Has, Distinct}
use Rattle.plir_store.specs.MemberLaws.{Has-append_cases, Has-append_left, Has-append_right, Has-at}
use Rattle.plir_core.specs.declared.ptr.Ptr.{Ptr}
use Rattle.plir_core.specs.SameValue.{same_ptr, ptr-exact}

pub bool_cases : (b : Bool) → (b ≡ true) ⊎ (b ≡ false)
bool_cases true = inl refl
bool_cases false = inr refl

-- two numbers are the same or not
pub number-told : (i j : ℕ) → (i ≡ j) ⊎ (i ≡ j → ⊥)
number-told i j = elim (bool_cases (nat_eq i j)) [
  | inl e ↦ inl ((unsigned_Decides i j).0 e)
  | inr e ↦ inr (λ h. true≢false (sym ((unsigned_Decides i j).1 h) ∙ e))
]

-- what the derived test of two pointers says
pub same-ptr : {X : Type 0} (p q : Ptr X) (b : Bool) → b ≡ (eqb p.slot q.slot && (eqb p.version q.version && true))
    → IsTrue b ↔ (p ≡ q)
same-ptr {X} p q b e = (
  λ h.
      let slots : p.slot ≡ q.slot = grind arith in
      let versions : p.version ≡ q.version = grind arith in
      ap (λ (n : ℕ). let r : Ptr X = record { slot = n; version = p.version; kind = record {} } in r) slots
      ∙ ap (λ (n : ℕ). let r : Ptr X = record { slot = q.slot; version = n; kind = record {} } in r) versions,
  λ h.
      let slots : p.slot ≡ q.slot = ap (λ z. z.slot) h in
      let versions : p.version ≡ q.version = ap (λ z. z.version) h in
      grind arith,
)

-- two pointers are the same or not
pub ptr-told : {X : Type 0} (p q : Ptr X) → (p ≡ q) ⊎ (p ≡ q → ⊥)
ptr-told p q = elim (bool_cases (same_ptr p q)) [
  | inl e ↦ inl ((ptr-exact p q).0 e)
  | inr e ↦ inr (λ h. true≢false (sym ((ptr-exact p q).1 h) ∙ e))
]

module _ {X : Type 0} where
  -- an element that stands once does not stand among those before it
  pub distinct-before : (xs : List X) (i : ℕ) (x : X) → slice_get xs i ≡ Some x → Distinct xs → Has (take i xs) x → ⊥
  distinct-before [] i x e d h = none-some x e
  distinct-before (y ∷ ys) zero x e d h = h
  distinct-before (y ∷ ys) (suc i) x e d (inl same) = d.0 (subst (Has ys) (sym same) (Has-at ys i x e))
  distinct-before (y ∷ ys) (suc i) x e d (inr h) = distinct-before ys i x e d.1 h

  take-has : (i : ℕ) (xs : List X) (x : X) → Has (take i xs) x → Has xs x
  take-has zero xs x h = absurd h
  take-has (suc i) [] x h = absurd h
  take-has (suc i) (y ∷ ys) x (inl e) = inl e
  take-has (suc i) (y ∷ ys) x (inr h) = inr (take-has i ys x h)

  drop-has : (i : ℕ) (xs : List X) (x : X) → Has (drop i xs) x → Has xs x
  drop-has zero xs x h = h
  drop-has (suc i) [] x h = absurd h
  drop-has (suc i) (y ∷ ys) x h = inr (drop-has i ys x h)

  pub before-has : (i : ℕ) (xs : List X) (x : X) → Has (take i xs) x → Has xs x
  before-has i xs x h = take-has i xs x h

  -- what is left of a list where one is taken out stood in it
  pub has-remove : (xs : List X) (i : ℕ) (x : X) → Has (remove xs i) x → Has xs x
  has-remove xs i x h = elim (Has-append_cases (take i xs) (drop (suc i) xs) x h) [
    | inl a ↦ take-has i xs x a
    | inr b ↦ drop-has (suc i) xs x b
  ]

  -- one more of the first elements
  pub take-next : (xs : List X) (i : ℕ) (x : X) → slice_get xs i ≡ Some x → take (suc i) xs ≡ take i xs ++ x ∷ []
  take-next [] i x e = absurd (none-some x e)
  take-next (y ∷ ys) zero x e = ap (λ z. z ∷ []) (same_Some y x e)
  take-next (y ∷ ys) (suc i) x e = ap (λ zs. y ∷ zs) (take-next ys i x e)

  pub take-more : (xs : List X) (i : ℕ) (x : X) → slice_get xs i ≡ Some x → take (i + 1) xs ≡ take i xs ++ x ∷ []
  take-more xs i x e = (let next : i + 1 ≡ suc i = omega arith in ap (λ k. take k xs) next ∙ take-next xs i x e)

  pub next-cases : (xs : List X) (i : ℕ) (x y : X) → slice_get xs i ≡ Some x → Has (take (suc i) xs) y
      → Has (take i xs) y ⊎ (x ≡ y)
  next-cases xs i x y e h = elim (Has-append_cases (take i xs) (x ∷ []) y (subst (λ zs. Has zs y) (take-next xs i x e) h)) [
    | inl a ↦ inl a
    | inr b ↦ elim b [ inl same ↦ inr same | inr z ↦ absurd z ]
  ]

  pub next-left : (xs : List X) (i : ℕ) (x y : X) → slice_get xs i ≡ Some x → Has (take i xs) y → Has (take (suc i) xs) y
  next-left xs i x y e h = subst (λ zs. Has zs y) (sym (take-next xs i x e)) (Has-append_left (take i xs) (x ∷ []) y h)

  pub next-right : (xs : List X) (i : ℕ) (x : X) → slice_get xs i ≡ Some x → Has (take (suc i) xs) x
  next-right xs i x e =
      subst (λ zs. Has zs x) (sym (take-next xs i x e)) (Has-append_right (take i xs) (x ∷ []) x (inl refl))

  -- what stands at a place of a list in which one was replaced
  pub set-at : (xs : List X) (k j : ℕ) (c b : X) → slice_get (slice_set xs k c) j ≡ Some b
      → ((j ≡ k) × (c ≡ b)) ⊎ ((j ≡ k → ⊥) × (slice_get xs j ≡ Some b))
  set-at [] k j c b e = absurd (none-some b e)
  set-at (x ∷ xs) zero zero c b e = inl (refl, same_Some c b e)
  set-at (x ∷ xs) zero (suc j) c b e = inr ((λ h. let no : ⊥ = omega (arith, h) in no), e)
  set-at (x ∷ xs) (suc k) zero c b e = inr ((λ h. let no : ⊥ = omega (arith, h) in no), e)
  set-at (x ∷ xs) (suc k) (suc j) c b e = elim (set-at xs k j c b e) [
    | inl h ↦ inl (ap suc h.0, h.1)
    | inr h ↦ inr ((λ q. h.0 (let z : j ≡ k = omega (arith, q) in z)), h.1)
  ]

  -- an element that is tested at each place stands at one, or at none
  pub place-told : (same : (x y : X) → (x ≡ y) ⊎ (x ≡ y → ⊥)) (xs : List X) (b : X)
      → ((k : ℕ) × (slice_get xs k ≡ Some b)) ⊎ ((k : ℕ) → slice_get xs k ≡ Some b → ⊥)
  place-told same [] b = inr (λ k e. none-some b e)
  place-told same (x ∷ xs) b = elim (same x b) [
    | inl e ↦ inl (zero, ap Some e)
    | inr off ↦ elim (place-told same xs b) [
      | inl h ↦ inl (suc h.0, h.1)
      | inr none ↦ inr (λ k e. later k e none off)
    ]
  ]
    where
      later : (k : ℕ) → slice_get (x ∷ xs) k ≡ Some b → ((j : ℕ) → slice_get xs j ≡ Some b → ⊥) → (x ≡ b → ⊥) → ⊥
      later zero e none off = off (same_Some x b e)
      later (suc k) e none off = none k e

  pub has-index : (xs : List X) (k : ℕ) (d : X) → k < length xs → Has xs (slice_index_or xs k d)
  has-index xs k d h = Has-at xs k (slice_index_or xs k d) (slice_get-get_or xs k d h)
