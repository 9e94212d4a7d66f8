-- What is left when a tree of nodes is erased.
use Rattle.std.specs.Prelude.{◌≡◌, ℕ, zero, suc, ◌+◌, Bool, true, false, List, [], ◌∷◌, ◌++◌, length, Some}
use Rattle.std.specs.List.{filter, flat_map}
use Rattle.plir_store.specs.Lists.{without_child}
use Rattle.plir_store.specs.Table.{content_at, without_slot}
use Rattle.plir_core.specs.declared.ptr.Ptr.{Ptr}
use Rattle.plir_core.specs.declared.ptr.Operation.{Operation as OperationKind}
use Rattle.plir_core.specs.declared.ptr.BasicBlock.{BasicBlock as BlockKind}
use Rattle.plir_core.specs.declared.ptr.IRNode.{IRNode}
use Rattle.plir_core.specs.declared.ptr.IRNode.TheVariants.{Operation, Region, BasicBlock}
use Rattle.plir_core.specs.Above.{Reaches}
use Rattle.plir_core.specs.Nodes.{Nodes, node_children, node_parent, is_node_live, was_given_out, num_nodes}
use Rattle.plir_core.specs.Stored.{IsStored}
use Rattle.plir_core.specs.Measures.{most_steps}

-- the nodes from n down, each after those below it, children in order, to k levels
abbrev pub post_order : {N : Type 0} → (N → List N) → ℕ → N → List N
post_order children zero n = []
post_order children (suc k) n = flat_map (post_order children k) (children n) ++ n ∷ []

module _ {O B : Type 0} where
  -- one node is freed: it stands in no list, and its slot is the next to be used
  abbrev pub without_node : Nodes O B → IRNode → Nodes O B
  without_node s (Operation p) = record s {
    ops = without_slot s.ops p.slot;
    ops_in_block =
        without_child s.ops_in_block p.slot;
  }
  without_node s (Region p) = record s {
    regions = without_slot s.regions p.slot;
    regions_in_op =
        without_child s.regions_in_op p.slot;
  }
  without_node s (BasicBlock p) = record s {
    blocks = without_slot s.blocks p.slot;
    blocks_in_region =
        without_child s.blocks_in_region p.slot;
  }

  -- nodes are freed one after another
  abbrev pub without_nodes : Nodes O B → List IRNode → Nodes O B
  without_nodes s [] = s
  without_nodes s (n ∷ ns) = without_nodes (without_node s n) ns

  -- the nodes of the tree under n, each after those below it
  abbrev pub tree_of : Nodes O B → IRNode → List IRNode
  tree_of s n = post_order (node_children s) (most_steps s) n

  -- the whole tree under n is freed, each node after those below it
  abbrev pub erased : Nodes O B → IRNode → Nodes O B
  erased s n = without_nodes s (tree_of s n)

  -- An operation, region or block n and all below it are gone from s to t, and nothing else is changed.
  pub record IsErased (s t : Nodes O B) (n : IRNode) : Type 0 where
    pub stored : IsStored t
    -- n and what is below it is no longer live, all other nodes are as live as they were
    pub gone : (m : IRNode) → Reaches (node_parent s) m n → is_node_live t m ≡ false
    pub live : (m : IRNode) → (Reaches (node_parent s) m n → ⊥) → is_node_live t m ≡ is_node_live s m
    -- and hold what they held
    pub ops : (p : Ptr OperationKind) → is_node_live t (Operation p) ≡ true →
        content_at t.ops p.slot ≡ content_at s.ops p.slot
    pub blocks : (p : Ptr BlockKind) → is_node_live t (BasicBlock p) ≡ true →
        content_at t.blocks p.slot ≡ content_at s.blocks p.slot
    -- they have the parents that they had
    pub parents : (m : IRNode) → (Reaches (node_parent s) m n → ⊥) → node_parent t m ≡ node_parent s m
    -- and the children, but that n's parent has lost n
    pub children : (m : IRNode) → (Reaches (node_parent s) m n → ⊥) → (node_parent s n ≡ Some m → ⊥) →
        node_children t m ≡ node_children s m
    pub children_over : (m : IRNode) (xs ys : List IRNode) → node_children s m ≡ xs ++ n ∷ ys
        → node_children t m ≡ xs ++ ys
    -- what was ever given out still counts as given out
    pub given : (m : IRNode) → was_given_out t m ≡ was_given_out s m
    -- there are as many nodes fewer as the tree had
    pub count : num_nodes t + length (tree_of s n) ≡ num_nodes s
    pub limit : t.limit ≡ s.limit

  -- Each node that stays from s to t, where n with all below it was erased, has the children that it had but for n, in
  -- their order: `keeps` is any test that tells n from all other nodes.
  abbrev pub LosesOneChild : Nodes O B → Nodes O B → IRNode → Type 0
  LosesOneChild s t n =
      (keeps : IRNode → Bool) → keeps n ≡ false → ((x : IRNode) → (x ≡ n → ⊥) → keeps x ≡ true) →
      (m : IRNode) → (Reaches (node_parent s) m n → ⊥) → node_children t m ≡ filter keeps (node_children s m)
