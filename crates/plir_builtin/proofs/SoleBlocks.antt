-- An operation with one region that has one block has a body.
use Rattle.std.proofs.Common.{◌≡◌, ℕ, zero, suc, ◌<◌, length, slice_get, get_or, arith, List, [], ◌∷◌, Option, Some}
use Rattle.std.proofs.Common.{None, IsSome, All, true≢false, refl, sym, subst}
use Rattle.std.specs.Prelude.{option_and_then}
use Rattle.std.proofs.lemmas.Option.{same_Some, none-some}
use Rattle.plir_core.specs.declared.ptr.Ptr.{Ptr}
use Rattle.plir_core.specs.declared.ptr.Operation.{Operation as OperationKind}
use Rattle.plir_core.specs.declared.ptr.IRNode.{IRNode}
use Rattle.plir_core.specs.declared.ptr.IRNode.TheVariants.{Operation}
use Rattle.plir_core.specs.ContextView.{ContextView, children}
use Rattle.plir_iface.specs.Counts.{HasNRegions}
use Rattle.plir_iface.specs.Regions.{HasOneBlock, HasSingleBlocks}
use Rattle.plir_builtin.specs.Symbols.{only, body}

-- lists of one element
only-length : {X : Type 0} (xs : List X) → IsSome (only xs) → length xs ≡ 1
only-length [] h = absurd (true≢false (sym h))
only-length (x ∷ []) h = refl
only-length (x ∷ y ∷ xs) h = absurd (true≢false (sym h))

-- the one element of a list of length one
pub one-of : {X : Type 0} (xs : List X) (x : X) → length xs ≡ 1 → slice_get xs 0 ≡ Some x → xs ≡ x ∷ []
one-of [] x n e = absurd (none-some x e)
one-of (y ∷ []) x n e = (λ i. same_Some y x e i ∷ [])
one-of (y ∷ z ∷ ys) x n e = absurd (omega (arith, n))

module _ {K A T : Type 0} (s : ContextView K A T) (t : Ptr OperationKind) where
  -- where there is a body, there is one region with one block
  body-sole : IsSome (body s t) → HasNRegions 1 s t × HasSingleBlocks s t
  body-sole h = at (children s (Operation t)) h
    where
      all : (r : IRNode) → HasOneBlock s r → (k : ℕ) (d : IRNode) → k < 1 → HasOneBlock s (get_or (r ∷ []) k d)
      all r one zero d k = one
      all r one (suc i) d k = absurd (omega (arith, k))

      at : (rs : List IRNode) → IsSome (option_and_then (λ r. only (children s r)) (only rs))
          → (length rs ≡ 1) × All (HasOneBlock s) rs
      at [] h = absurd (true≢false (sym h))
      at (r ∷ []) h = (refl, all r (only-length (children s r) h))
      at (r ∷ q ∷ rs) h = absurd (true≢false (sym h))

  body-single : IsSome (body s t) → HasSingleBlocks s t
  body-single h = (body-sole h).1

  pub sole-some : HasNRegions 1 s t → HasSingleBlocks s t → IsSome (body s t)
  sole-some n a = at (children s (Operation t)) n a
    where
      only-some : (xs : List IRNode) → length xs ≡ 1 → IsSome (only xs)
      only-some [] n = absurd (omega (arith, n))
      only-some (x ∷ []) n = refl
      only-some (x ∷ y ∷ xs) n = absurd (omega (arith, n))

      at : (rs : List IRNode) → length rs ≡ 1 → All (HasOneBlock s) rs
          → IsSome (option_and_then (λ r. only (children s r)) (only rs))
      at [] n a = absurd (omega (arith, n))
      at (r ∷ []) n a = only-some (children s r) (a 0 r (omega arith))
      at (r ∷ q ∷ rs) n a = absurd (omega (arith, n))

  pub no-body : (HasSingleBlocks s t → ⊥) → body s t ≡ None
  no-body f = at (body s t) refl
    where
      at : (o : Option IRNode) → body s t ≡ o → o ≡ None
      at None e = refl
      at (Some b) e = absurd (f (body-single (subst IsSome (sym e) refl)))
