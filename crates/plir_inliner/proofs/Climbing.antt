-- Climbs from an operation to its parent operation.
use Rattle.std.proofs.Common.{◌≡◌, ℕ, zero, suc, ◌+◌, ◌<◌, arith, Option, Some, None, refl, sym, ap, subst, ◌∙◌}
use Rattle.std.specs.Prelude.{IfSome, option_map}
use Rattle.std.proofs.lemmas.Option.{same_Some, none-some}
use Rattle.plir_core.specs.declared.ptr.Ptr.{Ptr}
use Rattle.plir_core.specs.declared.ptr.Operation.{Operation as OperationKind}
use Rattle.plir_core.specs.declared.ptr.IRNode.{IRNode}
use Rattle.plir_core.specs.declared.ptr.IRNode.TheVariants.{Operation}
use Rattle.plir_core.specs.Above.{climb}
use Rattle.plir_core.specs.ContextView.{ContextView, IsLive, op_above, parent_of}
use Rattle.plir_core.specs.Measures.{IsMeasured, depth}
use Rattle.plir_builtin.specs.Nearest.{levels_up}

nothing : {N : Type 0} (up : N → Option N) (k : ℕ) → climb up k None ≡ None
nothing up zero = refl
nothing up (suc k) = refl

module _ {K A T : Type 0} (s : ContextView K A T) where
  -- the operation at which a climb stands, if any, is live
  abbrev pub IsThere : Option (Ptr OperationKind) → Type 0
  IsThere at = (p : Ptr OperationKind) → at ≡ Some p → IsLive s (Operation p)

  pub there : (at : Option (Ptr OperationKind)) → IfSome at (λ p. IsLive s (Operation p)) → IsThere at
  there None h p e = absurd (none-some p e)
  there (Some q) h p e = subst (λ z. IsLive s (Operation z)) (same_Some q p e) h

  climb-depth : IsMeasured s → (k : ℕ) (m q : IRNode) → climb (parent_of s) k (Some m) ≡ Some q →
      depth s q + k ≡ depth s m
  climb-depth w zero m q e = let h = ap (depth s) (same_Some m q e) in omega (arith, h)
  climb-depth w (suc k) m q e = at (λ a h. climb-depth w k a q h) (parent_of s m) refl e
    where
      at : ((a : IRNode) → climb (parent_of s) k (Some a) ≡ Some q → depth s q + k ≡ depth s a) → (o : Option IRNode)
          → parent_of s m ≡ o → climb (parent_of s) k o ≡ Some q → depth s q + suc k ≡ depth s m
      at rest None f h = absurd (none-some q (sym (nothing (parent_of s) k) ∙ h))
      at rest (Some a) f h = let i = rest a h in let d = w.deeper a m f in omega (arith, i, d)

  -- a climb gets higher
  pub falls : IsMeasured s → (at : Option (Ptr OperationKind)) (p : Ptr OperationKind) → at ≡ Some p →
      (next : Option (Ptr OperationKind)) → option_map Operation next ≡ op_above s (Operation p) →
      levels_up (depth s) next < levels_up (depth s) at
  falls w at p is next e = subst (λ z. levels_up (depth s) next < levels_up (depth s) z) (sym is) (by next e)
    where
      by : (o : Option (Ptr OperationKind)) → option_map Operation o ≡ op_above s (Operation p) →
          levels_up (depth s) o < levels_up (depth s) (Some p)
      by None h = omega arith
      by (Some q) h = let d = climb-depth w 3 (Operation p) (Operation q) (sym h) in omega (arith, d)
