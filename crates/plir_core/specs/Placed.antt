-- What linking and unlinking leave as it was, and which children they change.
use Rattle.std.specs.Prelude.{◌≡◌, List, [], ◌∷◌, ◌++◌, Some, None}
use Rattle.plir_core.specs.declared.ptr.IRNode.{IRNode}
use Rattle.plir_core.specs.Nodes.{Nodes, node_children, node_parent}

module _ {O B : Type 0} where
  -- From s to t the same nodes are live and hold what they held, and none but n has another parent.
  pub record MovesOnly (s t : Nodes O B) (n : IRNode) : Type 0 where
    pub ops : t.ops ≡ s.ops
    pub regions : t.regions ≡ s.regions
    pub blocks : t.blocks ≡ s.blocks
    pub limit : t.limit ≡ s.limit
    pub parents : (m : IRNode) → (m ≡ n → ⊥) → node_parent t m ≡ node_parent s m

  -- From s to t the node n has come under `over`, whose children are now ks, and nothing else has changed.
  pub record IsPlaced (s t : Nodes O B) (n over : IRNode) (ks : List IRNode) : Type 0 where
    pub moved : MovesOnly s t n
    pub parent : node_parent t n ≡ Some over
    pub children_over : node_children t over ≡ ks
    pub children : (m : IRNode) → (m ≡ over → ⊥) → node_children t m ≡ node_children s m

  -- From s to t the node n stands under nothing, its parent, if it had one, has lost it, and nothing else has changed.
  pub record IsUnlinked (s t : Nodes O B) (n : IRNode) : Type 0 where
    pub moved : MovesOnly s t n
    pub parent : node_parent t n ≡ None
    pub children_over : (m : IRNode) (xs ys : List IRNode) → node_children s m ≡ xs ++ n ∷ ys
        → node_children t m ≡ xs ++ ys
    pub children : (m : IRNode) → (node_parent s n ≡ Some m → ⊥) → node_children t m ≡ node_children s m

  -- first, or last, among the children of `over`
  abbrev pub IsPlacedFirst : Nodes O B → Nodes O B → IRNode → IRNode → Type 0
  IsPlacedFirst s t n over = IsPlaced s t n over (n ∷ node_children s over)

  abbrev pub IsPlacedLast : Nodes O B → Nodes O B → IRNode → IRNode → Type 0
  IsPlacedLast s t n over = IsPlaced s t n over (node_children s over ++ n ∷ [])

  -- right before, or right behind, a child that is named, under that one's parent
  abbrev pub IsPlacedBefore : Nodes O B → Nodes O B → IRNode → IRNode → Type 0
  IsPlacedBefore s t n mark = (over : IRNode) (xs ys : List IRNode) → node_children s over ≡ xs ++ mark ∷ ys →
      IsPlaced s t n over (xs ++ n ∷ mark ∷ ys)

  abbrev pub IsPlacedBehind : Nodes O B → Nodes O B → IRNode → IRNode → Type 0
  IsPlacedBehind s t n mark = (over : IRNode) (xs ys : List IRNode) → node_children s over ≡ xs ++ mark ∷ ys →
      IsPlaced s t n over (xs ++ mark ∷ n ∷ ys)
