-- The operations of a tree, in their order.
use Rattle.std.specs.Prelude.{◌≡◌, List, [], ◌∷◌, ◌++◌}
use Rattle.std.specs.declared.ops.ControlFlow.{ControlFlow}
use Rattle.std.specs.declared.ops.ControlFlow.TheVariants.{Continue, Break}
use Rattle.plir_store.specs.Members.{Has}
use Rattle.plir_core.specs.declared.ptr.Ptr.{Ptr}
use Rattle.plir_core.specs.declared.ptr.Operation.{Operation as OperationKind}
use Rattle.plir_core.specs.declared.ptr.IRNode.TheVariants.{Operation}
use Rattle.plir_core.specs.ContextView.{ContextView, children}
use Rattle.plir_walk.specs.declared.config.TheConstants.{WALKCONFIG_PREORDER_FORWARD as pre_forward}
use Rattle.plir_walk.specs.declared.interruptible.WalkContinue.{WalkContinue}
use Rattle.plir_walk.specs.declared.interruptible.WalkContinue.TheVariants.{Advance, Skip}
use Rattle.plir_walk.specs.Lists.{Pairs}
use Rattle.plir_walk.specs.Tree.{IsUnder, NodeBefore}

module _ {K A T : Type 0} (s : ContextView K A T) (root : Ptr OperationKind) where
  -- exactly the operations at or below the root, each once, in the order of their places
  pub record AreOps (ps : List (Ptr OperationKind)) : Type 0 where
    pub only_ops : (p : Ptr OperationKind) → Has ps p → IsUnder (children s) (Operation root) (Operation p)
    pub all_ops : (p : Ptr OperationKind) → IsUnder (children s) (Operation root) (Operation p) → Has ps p
    pub in_order : Pairs (λ p q. NodeBefore pre_forward (children s) (Operation root) (Operation p) (Operation q)) ps

-- What a call at an operation does to a list: the operation is put behind it, and the walk goes on; or it is broken
-- off.
abbrev pub IsNoted : {B : Type 0} → List (Ptr OperationKind) → Ptr OperationKind → ControlFlow B WalkContinue →
    List (Ptr OperationKind) → Type 0
IsNoted ps p (Continue Advance) ps' = ps' ≡ ps ++ p ∷ []
IsNoted ps p (Continue Skip) ps' = ⊥
IsNoted ps p (Break b) ps' = Unit {0}
