-- The place of a region among those of its operation.
use Rattle.std.proofs.Common.{◌≡◌, ℕ, zero, suc, true, false, List, [], ◌∷◌, Some, ◌⊎◌, inl, inr, refl, sym, ap, subst}
use Rattle.std.specs.Prelude.{slice_get}
use Rattle.std.proofs.lemmas.Bool.Decides.{eqb_tells}
use Rattle.std.proofs.lemmas.Option.{same_Some, none-some}
use Rattle.plir_core.specs.declared.ptr.Ptr.{Ptr}
use Rattle.plir_core.specs.declared.ptr.Region.{Region as RegionKind}
use Rattle.plir_core.specs.declared.ptr.IRNode.{IRNode}
use Rattle.plir_core.specs.declared.ptr.IRNode.TheVariants.{Operation, BasicBlock, Region}
use Rattle.plir_store.specs.Members.{Has, Distinct}
use Rattle.plir_walk.specs.Tree.{same}
use Rattle.plir_print.specs.EdgeText.{place_among}

-- a region is the same as itself alone
same-region : (p q : Ptr RegionKind)
    → ((same (Region p) (Region q) ≡ true) × (p ≡ q)) ⊎ ((same (Region p) (Region q) ≡ false) × (p ≡ q → ⊥))
same-region p q = elim (eqb_tells p.slot q.slot) [
  | inl s ↦ elim (eqb_tells p.version q.version) [
    | inl v ↦ inl
        ((let a = s.0 in let b = v.0 in rw (a, b) refl), λ i. record { slot = s.1 i; version = v.1 i; kind = p.kind })
    | inr v ↦ inr ((let a = s.0 in let b = v.0 in rw (a, b) refl), λ e. v.1 (ap (λ z. z.version) e))
  ]
  | inr s ↦ inr ((let h = s.0 in rw h refl), λ e. s.1 (ap (λ z. z.slot) e))
]

has_at : (xs : List IRNode) (i : ℕ) (x : IRNode) → slice_get xs i ≡ Some x → Has xs x
has_at [] i x e = absurd (none-some x e)
has_at (y ∷ ys) zero x e = inl (same_Some y x e)
has_at (y ∷ ys) (suc i) x e = inr (has_at ys i x e)

module _ (r : Ptr RegionKind) where
  tells : (y : IRNode)
      → ((same y (Region r) ≡ true) × (y ≡ Region r)) ⊎ ((same y (Region r) ≡ false) × (y ≡ Region r → ⊥))
  tells (Operation p) = inr (refl, λ e. cc e)
  tells (BasicBlock p) = inr (refl, λ e. cc e)
  tells (Region p) = elim (same-region p r) [ inl h ↦ inl (h.0, ap Region h.1) | inr h ↦ inr (h.0, λ e. h.1 (cc e)) ]

  pub place-there : (xs : List IRNode) (i : ℕ) → Distinct xs → slice_get xs i ≡ Some (Region r)
      → place_among (Region r) xs ≡ i
  place-there [] i d e = absurd (none-some (Region r) e)
  place-there (y ∷ ys) zero d e = elim (tells y) [
    | inl h ↦ rw (h.0) refl
    | inr h ↦ absurd (h.1 (same_Some y (Region r) e))
  ]
  place-there (y ∷ ys) (suc i) d e = elim (tells y) [
    | inl h ↦ absurd (d.0 (subst (Has ys) (sym h.1) (has_at ys i (Region r) e)))
    | inr h ↦ rw (h.0) (ap suc (place-there ys i d.1 e))
  ]
