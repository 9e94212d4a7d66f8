-- The operations of a tree.
use Rattle.std.specs.Prelude.{◌≡◌, ℕ, Bool, true, List, length}
use Rattle.plir_store.specs.Members.{Has}
use Rattle.plir_core.specs.declared.ptr.Ptr.{Ptr}
use Rattle.plir_core.specs.declared.ptr.Operation.{Operation as OperationKind}
use Rattle.plir_core.specs.declared.ptr.BasicBlock.{BasicBlock as BlockKind}
use Rattle.plir_core.specs.declared.ptr.IRNode.{IRNode}
use Rattle.plir_core.specs.declared.ptr.IRNode.TheVariants.{Operation, BasicBlock}
use Rattle.plir_core.specs.ContextView.{ContextView, children}
use Rattle.plir_walk.specs.declared.config.TheConstants.{WALKCONFIG_PREORDER_FORWARD as pre_forward}
use Rattle.plir_walk.specs.Lists.{Pairs}
use Rattle.plir_walk.specs.Tree.{IsUnder, NodeBefore}

module _ {K A T : Type 0} (s : ContextView K A T) where
  -- Exactly the operations under a node that a test keeps, each once, in the order of their places.
  pub record AreListed (keeps : Ptr OperationKind → Bool) (root : IRNode) (ps : List (Ptr OperationKind)) : Type 0 where
    pub only : (p : Ptr OperationKind) → Has ps p → IsUnder (children s) root (Operation p) × (keeps p ≡ true)
    pub all : (p : Ptr OperationKind) → IsUnder (children s) root (Operation p) → keeps p ≡ true → Has ps p
    pub in_order : Pairs (λ p q. NodeBefore pre_forward (children s) root (Operation p) (Operation q)) ps

  -- What a copy of a block costs: as much as operations stand below the block, the last one counted.
  pub record IsCost (b : Ptr BlockKind) (n : ℕ) : Type 0 where
    pub ops : List (Ptr OperationKind)
    pub listed : AreListed (λ p. true) (BasicBlock b) ops
    pub number : n ≡ length ops
