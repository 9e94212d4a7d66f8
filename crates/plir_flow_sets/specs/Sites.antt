-- Which operations call the function of a name.
use Rattle.std.specs.Prelude.{◌≡◌, ℕ, List, Option, Some, None}
use Rattle.plir_store.specs.Members.{Has}
use Rattle.plir_core.specs.declared.ptr.Ptr.{Ptr}
use Rattle.plir_core.specs.declared.ptr.Operation.{Operation as OperationKind}
use Rattle.plir_core.specs.declared.ptr.IRNode.TheVariants.{Operation}
use Rattle.plir_core.specs.Contents.{OpView}
use Rattle.plir_core.specs.ContextView.{ContextView, children}
use Rattle.plir_walk.specs.declared.config.TheConstants.{WALKCONFIG_PREORDER_FORWARD as pre_forward}
use Rattle.plir_walk.specs.Lists.{Pairs}
use Rattle.plir_walk.specs.Tree.{IsUnder, NodeBefore}
use Rattle.plir_flow.specs.declared.calls.CallOpCallable.TheVariants.{Direct}
use Rattle.plir_flow_sets.specs.Calls.{CallView}
use Rattle.plir_flow_sets.specs.Told.{told_of}

-- what is told is a call of the function of a name
abbrev pub IsCallOf : List ℕ → Option CallView → Type 0
IsCallOf name None = ⊥
IsCallOf name (Some c) = c.callee ≡ Direct name

module _ {K A T : Type 0} (calls : OpView K A → Option CallView) (name : List ℕ) (s : ContextView K A T)
    (root : Ptr OperationKind) where
  -- an operation at or below the root calls the function of the name
  pub record IsCallSite (p : Ptr OperationKind) : Type 0 where
    pub below : IsUnder (children s) (Operation root) (Operation p)
    pub calls_it : IsCallOf name (told_of calls s p)

  -- exactly those operations, each once, in the order of their places
  pub record AreCallSites (ps : List (Ptr OperationKind)) : Type 0 where
    pub only_sites : (p : Ptr OperationKind) → Has ps p → IsCallSite p
    pub all_sites : (p : Ptr OperationKind) → IsCallSite p → Has ps p
    pub in_order : Pairs (λ p q. NodeBefore pre_forward (children s) (Operation root) (Operation p) (Operation q)) ps
