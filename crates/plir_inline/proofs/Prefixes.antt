-- What holds of the first elements of a list, one more at a time.
use Rattle.std.proofs.Common.{◌≡◌, ◌+◌, ℕ, zero, suc, arith, Bool, true, false, ◌&&◌, eqb, not, List, [], ◌∷◌, ◌++◌}
use Rattle.std.proofs.Common.{take, map}
use Rattle.std.proofs.Common.{Some, inl, inr, refl, sym, ap, subst, ◌∙◌}
use Rattle.std.specs.Prelude.{◌↔◌, IsTrue, slice_get}
use Rattle.std.proofs.lemmas.List.{take_more}
use Rattle.std.proofs.lemmas.Option.{get_or_from_slice_get, none-some, same_Some, slice_get_within}
use Rattle.plir_store.specs.Members.{Has}
use Rattle.plir_store.specs.MemberLaws.{Has-append_cases}
use Rattle.plir_core.specs.declared.ptr.Ptr.{Ptr}
use Rattle.plir_core.specs.declared.ptr.BasicBlock.{BasicBlock as BlockKind}
use Rattle.plir_core.specs.declared.value.Value.{Value}
use Rattle.plir_core.specs.declared.value.DefiningEntity.{DefiningEntity}
use Rattle.plir_inline.specs.Branches.{has_block}
use Rattle.plir_inline.specs.Given.{NoneFrom}
use Rattle.plir_inline.proofs.BranchCalls.{found-has, has-found}

module _ {X : Type 0} where
  -- one more of the first elements
  pub take-next : (xs : List X) (i : ℕ) (x : X) → slice_get xs i ≡ Some x → take (i + 1) xs ≡ take i xs ++ x ∷ []
  take-next xs i x e =
      take_more xs i x (slice_get_within xs i x e)
      ∙ ap (λ z. take i xs ++ z ∷ []) (get_or_from_slice_get xs i x x e)

pub slice-map : {X Y : Type 0} (f : X → Y) (xs : List X) (i : ℕ) (x : X) → slice_get xs i ≡ Some x
    → slice_get (map f xs) i ≡ Some (f x)
slice-map f [] i x e = absurd (none-some x e)
slice-map f (y ∷ xs) zero x e = ap (λ z. Some (f z)) (same_Some y x e)
slice-map f (y ∷ xs) (suc i) x e = slice-map f xs i x e

not-true : (b : Bool) → (b ≡ true → ⊥) → b ≡ false
not-true true n = absurd (n refl)
not-true false n = refl

pub block-next : (xs : List (Ptr BlockKind)) (b x : Ptr BlockKind) (i : ℕ) → slice_get xs i ≡ Some x → (x ≡ b → ⊥)
    → has_block (take i xs) b ≡ false → has_block (take (i + 1) xs) b ≡ false
block-next xs b x i at off none = not-true (has_block (take (i + 1) xs) b) (λ yes.
    elim (Has-append_cases (take i xs) (x ∷ []) b (subst (λ zs. Has zs b) (take-next xs i x at)
    (found-has (take (i + 1) xs) b yes))) [
      | inl has ↦ (let z : true ≡ false = sym (has-found (take i xs) b has) ∙ none in cc)
      | inr has ↦ elim has [ inl e ↦ off e | inr z ↦ z ]
    ])

pub none-next : (e : DefiningEntity) (vs : List Value) (v : Value) (i : ℕ) → slice_get vs i ≡ Some v
    → (v.entity ≡ e → ⊥) → NoneFrom e (take i vs) → NoneFrom e (take (i + 1) vs)
none-next e vs v i at off none x has own = elim (Has-append_cases (take i vs) (v ∷ []) x (subst (λ zs. Has zs x) (take-next vs i v at) has)) [
  | inl h ↦ none x h own
  | inr h ↦ elim h [ inl is ↦ off (ap (λ z. z.entity) is ∙ own) | inr z ↦ z ]
]

pub same-next : {X : Type 0} (xs ys : List X) (x : X) (i : ℕ) → slice_get xs i ≡ Some x → slice_get ys i ≡ Some x
    → take i xs ≡ take i ys → take (i + 1) xs ≡ take (i + 1) ys
same-next xs ys x i a b e = take-next xs i x a ∙ ap (λ zs. zs ++ x ∷ []) e ∙ sym (take-next ys i x b)

-- what the derived test of two pointers says
pub same-ptr : {X : Type 0} (p q : Ptr X) (b : Bool) → b ≡ (eqb p.slot q.slot && (eqb p.version q.version && true))
    → IsTrue b ↔ (p ≡ q)
same-ptr {X} p q b e = (
  λ h.
      let slots : p.slot ≡ q.slot = grind arith in
      let versions : p.version ≡ q.version = grind arith in
      ap (λ (n : ℕ). let r : Ptr X = record { slot = n; version = p.version; kind = record {} } in r) slots
      ∙ ap (λ (n : ℕ). let r : Ptr X = record { slot = q.slot; version = n; kind = record {} } in r) versions,
  λ h.
      let slots : p.slot ≡ q.slot = ap (λ z. z.slot) h in
      let versions : p.version ≡ q.version = ap (λ z. z.version) h in
      grind arith,
)

-- and that of two handles
pub differ : (t u : ℕ) → true ≡ not (eqb t u) → t ≡ u → ⊥
differ t u h e = grind arith

pub alike : (t u : ℕ) → false ≡ not (eqb t u) → t ≡ u
alike t u h = grind arith
