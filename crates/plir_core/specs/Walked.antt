-- A walk through a tree, each node before those below it, and the sum over the nodes that it has gone by.
use Rattle.std.specs.Prelude.{◌≡◌, ℕ, zero, suc, ◌+◌, true, drop, Some, slice_get}
use Rattle.std.specs.List.{sum_by}
use Rattle.plir_core.specs.declared.ptr.IRNode.{IRNode}
use Rattle.plir_core.specs.Nodes.{Nodes, is_node_live, node_children}
use Rattle.plir_core.specs.Erase.{tree_of}

-- the sum of what g gives for the nodes of the tree under n
abbrev pub tree_sum : {O B : Type 0} → (IRNode → ℕ) → Nodes O B → IRNode → ℕ
tree_sum g s n = sum_by g (tree_of s n)

module _ {O B : Type 0} (g : IRNode → ℕ) (s : Nodes O B) (root : IRNode) where
  -- n stands `levels` levels below the root, and `rest` is the sum over what a walk through the tree of the root has
  -- ahead after n and all below n
  abbrev pub IsAfter : ℕ → IRNode → ℕ → Type 0
  IsAfter zero n rest = (n ≡ root) × (rest ≡ 0)
  IsAfter (suc levels) n rest = (over : IRNode) × (place : ℕ) × (more : ℕ) ×
      (slice_get (node_children s over) place ≡ Some n) ×
      (rest ≡ sum_by (tree_sum g s) (drop (place + 1) (node_children s over)) + more) × IsAfter levels over more

  -- the walk from the root has come to n, and `before` is the sum over the nodes that it has gone by
  pub record IsCome (n : IRNode) (before : ℕ) : Type 0 where
    pub live : is_node_live s n ≡ true
    pub levels : ℕ
    pub rest : ℕ
    pub after : IsAfter levels n rest
    pub whole : before + tree_sum g s n + rest ≡ tree_sum g s root

  -- it has gone by n too and by all below n
  pub record IsBehind (n : IRNode) (before : ℕ) : Type 0 where
    pub levels : ℕ
    pub rest : ℕ
    pub after : IsAfter levels n rest
    pub whole : before + rest ≡ tree_sum g s root

-- What is true of any sum.
module _ {O B : Type 0} (s : Nodes O B) (root n : IRNode) where
  -- a walk goes on to m after n and all below it, and after n
  abbrev pub GoesOnBehind : IRNode → Type 0
  GoesOnBehind m = (g : IRNode → ℕ) (before : ℕ) → IsBehind g s root n before → IsCome g s root m before

  abbrev pub GoesOn : IRNode → Type 0
  GoesOn m = (g : IRNode → ℕ) (before : ℕ) → IsCome g s root n before → IsCome g s root m (before + g n)

  -- it ends there
  abbrev pub EndsBehind : Type 0
  EndsBehind = (g : IRNode → ℕ) (before : ℕ) → IsBehind g s root n before → before ≡ tree_sum g s root

  abbrev pub Ends : Type 0
  Ends = (g : IRNode → ℕ) (before : ℕ) → IsCome g s root n before → before + g n ≡ tree_sum g s root
