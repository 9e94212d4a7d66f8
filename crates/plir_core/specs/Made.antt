-- What making nodes leaves as it was, and what is new.
use Rattle.std.specs.Prelude.{◌≡◌, ℕ, true, false, All, [], ◌∷◌, ◌++◌, length, Option, Some, None}
use Rattle.plir_store.specs.Table.{content_at}
use Rattle.plir_core.specs.declared.ptr.Ptr.{Ptr}
use Rattle.plir_core.specs.declared.ptr.Operation.{Operation as OperationKind}
use Rattle.plir_core.specs.declared.ptr.BasicBlock.{BasicBlock as BasicBlockKind}
use Rattle.plir_core.specs.declared.ptr.IRNode.{IRNode}
use Rattle.plir_core.specs.declared.ptr.IRNode.TheVariants.{Operation, BasicBlock}
use Rattle.plir_core.specs.Above.{Reaches}
use Rattle.plir_core.specs.Nodes.{Nodes, is_node_live, was_given_out, node_children, node_parent}

module _ {O B : Type 0} where
  -- From s to t what was live is live, and holds what it held; what was given out counts as given out; the limit is the
  -- same.
  pub record KeepsLive (s t : Nodes O B) : Type 0 where
    pub live : (m : IRNode) → is_node_live s m ≡ true → is_node_live t m ≡ true
    pub parents : (m : IRNode) → is_node_live s m ≡ true → node_parent t m ≡ node_parent s m
    pub ops : (p : Ptr OperationKind) → is_node_live s (Operation p) ≡ true →
        content_at t.ops p.slot ≡ content_at s.ops p.slot
    pub blocks : (p : Ptr BasicBlockKind) → is_node_live s (BasicBlock p) ≡ true →
        content_at t.blocks p.slot ≡ content_at s.blocks p.slot
    pub given : (m : IRNode) → was_given_out s m ≡ true → was_given_out t m ≡ true
    pub limit : t.limit ≡ s.limit

  -- From s to t one node n is new, and its pointer was never given out before. It has no children, and what stands
  -- right above it is `over`; all other children are as they were.
  pub record IsAdded (s t : Nodes O B) (n : IRNode) (over : Option IRNode) : Type 0 where
    pub keeps : KeepsLive s t
    pub children : (m : IRNode) → is_node_live s m ≡ true → (over ≡ Some m → ⊥) → node_children t m ≡ node_children s m
    pub new : is_node_live s n ≡ false
    pub fresh : was_given_out s n ≡ false
    pub added : is_node_live t n ≡ true
    pub placed : node_parent t n ≡ over
    pub leaf : node_children t n ≡ []
    pub only : (m : IRNode) → is_node_live t m ≡ true → is_node_live s m ≡ false → m ≡ n

  -- From s to t one region n is new, the last one of the operation o, and nothing else has changed.
  pub record IsRegionAdded (s t : Nodes O B) (o n : IRNode) : Type 0 where
    pub added : IsAdded s t n (Some o)
    pub last : node_children t o ≡ node_children s o ++ n ∷ []

  -- From s to t the tree under n is new, and nothing else has changed: the pointers of its nodes were never given out
  -- before, and its root n has no parent.
  pub record IsMade (s t : Nodes O B) (n : IRNode) : Type 0 where
    pub keeps : KeepsLive s t
    pub children : (m : IRNode) → is_node_live s m ≡ true → node_children t m ≡ node_children s m
    pub new : is_node_live s n ≡ false
    pub root : is_node_live t n ≡ true
    pub top : node_parent t n ≡ None
    pub below : (m : IRNode) → is_node_live t m ≡ true → is_node_live s m ≡ false → Reaches (node_parent t) m n
    pub fresh : (m : IRNode) → is_node_live t m ≡ true → is_node_live s m ≡ false → was_given_out s m ≡ false
    -- no older node stands below it
    pub apart : (m : IRNode) → is_node_live s m ≡ true → Reaches (node_parent t) m n → ⊥

  -- a region of a new operation o: it is live, stands in o, and has no block
  pub record IsNewRegion (t : Nodes O B) (o r : IRNode) : Type 0 where
    pub live : is_node_live t r ≡ true
    pub parent : node_parent t r ≡ Some o
    pub empty : node_children t r ≡ []

  -- a new operation o has n regions, each new
  pub record HasNewRegions (t : Nodes O B) (o : IRNode) (n : ℕ) : Type 0 where
    pub count : length (node_children t o) ≡ n
    pub each : All (IsNewRegion t o) (node_children t o)
