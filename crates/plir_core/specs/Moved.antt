-- What moving operations leaves as it was, and which children it changes.
use Rattle.std.specs.Prelude.{◌≡◌, List, [], ◌∷◌, ◌++◌, Some}
use Rattle.plir_store.specs.Members.{Has}
use Rattle.plir_core.specs.declared.ptr.IRNode.{IRNode}
use Rattle.plir_core.specs.Made.{IsMade}
use Rattle.plir_core.specs.Nodes.{Nodes, node_children, node_parent}
use Rattle.plir_core.specs.Placed.{IsUnlinked, IsPlacedBefore, IsPlacedBehind}

module _ {O B : Type 0} where
  -- From s to t the node n was taken out of where it stood and put right before, or right behind, a child that is
  -- named, and nothing else has changed.
  abbrev pub IsMovedBefore : Nodes O B → Nodes O B → IRNode → IRNode → Type 0
  IsMovedBefore s t n mark = (out : Nodes O B) × (IsUnlinked s out n × IsPlacedBefore out t n mark)

  abbrev pub IsMovedBehind : Nodes O B → Nodes O B → IRNode → IRNode → Type 0
  IsMovedBehind s t n mark = (out : Nodes O B) × (IsUnlinked s out n × IsPlacedBehind out t n mark)

  -- From s to t the nodes ms, children of `source`, have come under `over`: the children of `source` are now ls, those
  -- of `over` are ks, and nothing else has changed.
  pub record IsTransferred (s t : Nodes O B) (source over : IRNode) (ms ls ks : List IRNode) : Type 0 where
    pub ops : t.ops ≡ s.ops
    pub regions : t.regions ≡ s.regions
    pub blocks : t.blocks ≡ s.blocks
    pub limit : t.limit ≡ s.limit
    pub left : node_children t source ≡ ls
    pub children_over : node_children t over ≡ ks
    pub children : (m : IRNode) → (m ≡ source → ⊥) → (m ≡ over → ⊥) → node_children t m ≡ node_children s m
    pub moved : (m : IRNode) → Has ms m → node_parent t m ≡ Some over
    pub parents : (m : IRNode) → (Has ms m → ⊥) → node_parent t m ≡ node_parent s m

  -- all children of a node, in their order, have come behind those of `over`, or right before a child that is named
  abbrev pub IsSplicedLast : Nodes O B → Nodes O B → IRNode → IRNode → Type 0
  IsSplicedLast s t source over = IsTransferred s t source over (node_children s source) []
      (node_children s over ++ node_children s source)

  abbrev pub IsSplicedBefore : Nodes O B → Nodes O B → IRNode → IRNode → Type 0
  IsSplicedBefore s t source mark = (over : IRNode) (xs ys : List IRNode) → node_children s over ≡ xs ++ mark ∷ ys →
      IsTransferred s t source over (node_children s source) [] (xs ++ node_children s source ++ mark ∷ ys)

  -- the children of a node from n on, in their order, have come behind those of `over`
  abbrev pub IsSplitOff : Nodes O B → Nodes O B → IRNode → IRNode → IRNode → Type 0
  IsSplitOff s t source n over = (xs ys : List IRNode) → node_children s source ≡ xs ++ n ∷ ys →
      IsTransferred s t source over (n ∷ ys) xs (node_children s over ++ n ∷ ys)

  -- From s to t the node `new` was made, put right behind `source`, and got the children of `source` from n on.
  abbrev pub IsSplit : Nodes O B → Nodes O B → IRNode → IRNode → IRNode → Type 0
  IsSplit s t source n new = (made : Nodes O B) × (placed : Nodes O B) × (IsMade s made new × (IsPlacedBehind made placed new source ×
      IsSplitOff placed t source n new))
