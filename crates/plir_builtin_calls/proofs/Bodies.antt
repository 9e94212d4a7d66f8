-- Operations with a body.
use Rattle.std.proofs.Common.{◌≡◌, zero, suc, List, [], ◌∷◌, length, All, IsSome, refl, sym, true≢false, arith}
use Rattle.std.specs.Prelude.{option_and_then}
use Rattle.plir_core.specs.declared.ptr.Ptr.{Ptr}
use Rattle.plir_core.specs.declared.ptr.Operation.{Operation as OperationKind}
use Rattle.plir_core.specs.declared.ptr.IRNode.{IRNode}
use Rattle.plir_core.specs.declared.ptr.IRNode.TheVariants.{Operation}
use Rattle.plir_core.specs.ContextView.{ContextView, children}
use Rattle.plir_iface.specs.Counts.{HasNRegions}
use Rattle.plir_iface.specs.Regions.{HasOneBlock, HasSingleBlocks}
use Rattle.plir_builtin.specs.Symbols.{only, body}

-- what is the only one is one
one_only : {X : Type 0} (xs : List X) → IsSome (only xs) → length xs ≡ 1
one_only [] some = absurd (true≢false (sym some))
one_only (x ∷ []) some = refl
one_only (x ∷ y ∷ xs) some = absurd (true≢false (sym some))

-- what holds of one thing holds of the list of it alone
alone : {X : Type 0} (P : X → Type 0) (x : X) → P x → All P (x ∷ [])
alone P x p zero d lt = p
alone P x p (suc k) d lt = absurd (omega (arith, lt))

-- an operation with a body has one region, and that has one block
module _ {K A T : Type 0} (s : ContextView K A T) (t : Ptr OperationKind) (has : IsSome (body s t)) where
  pub one_region : HasNRegions 1 s t
  one_region = at (children s (Operation t)) has
    where
      at : (rs : List IRNode) → IsSome (option_and_then (λ r. only (children s r)) (only rs)) → length rs ≡ 1
      at [] some = absurd (true≢false (sym some))
      at (r ∷ []) some = refl
      at (r ∷ q ∷ rs) some = absurd (true≢false (sym some))

  pub single_blocks : HasSingleBlocks s t
  single_blocks = at (children s (Operation t)) has
    where
      at : (rs : List IRNode) → IsSome (option_and_then (λ r. only (children s r)) (only rs)) → All (HasOneBlock s) rs
      at [] some = absurd (true≢false (sym some))
      at (r ∷ []) some = alone (HasOneBlock s) r (one_only (children s r) some)
      at (r ∷ q ∷ rs) some = absurd (true≢false (sym some))
