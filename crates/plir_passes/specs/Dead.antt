-- Dead operations.
use Rattle.std.specs.Prelude.{◌≡◌, ◌≢◌, ℕ, Bool, true, false, not, ◌&&◌, List, [], ◌∷◌, Some, slice_get}
use Rattle.plir_data.specs.declared.op_set.OpKind.{OpKind}
use Rattle.plir_data.specs.declared.op_set.OpKind.TheVariants.{Module, Func, Constant, ForwardRef, Own}
use Rattle.plir_store.specs.Members.{Has}
use Rattle.plir_core.specs.declared.ptr.Ptr.{Ptr}
use Rattle.plir_core.specs.declared.ptr.Operation.{Operation as OperationKind}
use Rattle.plir_core.specs.declared.ptr.IRNode.{IRNode}
use Rattle.plir_core.specs.declared.ptr.IRNode.TheVariants.{Operation}
use Rattle.plir_core.specs.declared.value.DefiningEntity.TheVariants.{Op}
use Rattle.plir_core.specs.Forest.{look, IsBelow}
use Rattle.plir_core.specs.ContextView.{ContextView, IsLive, children, kind_of, operands_of}
use Rattle.plir_passes.specs.Legal.{is_kind}

-- Whether operations of a kind may go where nothing uses their results: constants may, and of the user's own kinds
-- those that have no effect and end no block.
abbrev pub is_removable : {K : Type 0} → (K → Bool) → (K → Bool) → OpKind K → Bool
is_removable effect ends Module = false
is_removable effect ends Func = false
is_removable effect ends Constant = true
is_removable effect ends ForwardRef = false
is_removable effect ends (Own k) = not (effect k) && not (ends k)

module _ {K A T : Type 0} where
  -- an operand of q is a result of p
  pub record Uses (s : ContextView K A T) (q p : Ptr OperationKind) : Type 0 where
    pub place : ℕ
    pub index : ℕ
    pub here : slice_get (operands_of s q) place ≡ Some (record { entity = Op p; index = index })

  -- no other operation uses a result of p
  abbrev pub IsUsedByNone : ContextView K A T → Ptr OperationKind → Type 0
  IsUsedByNone s p = (q : Ptr OperationKind) → IsLive s (Operation q) → q ≢ p → Uses s q p → ⊥

  module _ (effect ends : K → Bool) where
    -- an operation is of a kind that may go, and has no region
    pub record MayGo (s : ContextView K A T) (p : Ptr OperationKind) : Type 0 where
      pub removable : is_kind (is_removable effect ends) (kind_of s p) ≡ true
      pub no_region : children s (Operation p) ≡ []

    -- An operation is of a kind that may go, has no region, and no other operation uses a result of it but those of a
    -- list.
    pub record IsUsedBy (s : ContextView K A T) (others : List (Ptr OperationKind))
        (p : Ptr OperationKind) : Type 0 where
      pub live : IsLive s (Operation p)
      pub removable : is_kind (is_removable effect ends) (kind_of s p) ≡ true
      pub no_region : children s (Operation p) ≡ []
      pub users : (q : Ptr OperationKind) → IsLive s (Operation q) → q ≢ p → Uses s q p → Has others q

    -- Dead operations, the last ones first: each may go, and is used by those behind it in the list alone.
    abbrev pub AreDead : ContextView K A T → List (Ptr OperationKind) → Type 0
    AreDead s [] = Unit {0}
    AreDead s (p ∷ ps) = IsUsedBy s ps p × AreDead s ps

    -- No operation is left below a node that may go and that no other uses. One that nothing but a dead operation
    -- outside uses is not of these.
    abbrev pub HasNoDead : ContextView K A T → IRNode → Type 0
    HasNoDead s r = (p : Ptr OperationKind) → IsBelow (look s) r (Operation p) → IsUsedBy s [] p → ⊥
