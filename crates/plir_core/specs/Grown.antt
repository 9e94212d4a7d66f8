-- How trees grow: what is made below a node, and what holds of many steps.
use Rattle.std.specs.Prelude.{◌≡◌, true, false, List}
use Rattle.plir_core.specs.declared.ptr.IRNode.{IRNode}
use Rattle.plir_core.specs.Above.{Reaches}
use Rattle.plir_core.specs.Nodes.{Nodes, is_node_live, was_given_out, node_children, node_parent}
use Rattle.plir_core.specs.Stored.{IsStored}
use Rattle.plir_core.specs.Made.{KeepsLive, IsRegionAdded, IsMade}
use Rattle.plir_core.specs.Placed.{IsPlaced}
use Rattle.plir_core.specs.Edits.{SameNodes}
use Rattle.plir_core.specs.Erase.{IsErased}

module _ {O B : Type 0} where
  -- From s to t nodes are new, all below `over`, whose children may be others; nothing else has changed, and the
  -- pointers of the new nodes were never given out before.
  pub record IsGrown (s t : Nodes O B) (over : IRNode) : Type 0 where
    pub keeps : KeepsLive s t
    pub children : (m : IRNode) → is_node_live s m ≡ true → (m ≡ over → ⊥) → node_children t m ≡ node_children s m
    pub below : (m : IRNode) → is_node_live t m ≡ true → is_node_live s m ≡ false → Reaches (node_parent t) m over
    pub fresh : (m : IRNode) → is_node_live t m ≡ true → is_node_live s m ≡ false → was_given_out s m ≡ false

  -- a tree that was made and then put under a node has grown there
  abbrev pub PlacedIsGrown : Nodes O B → Type 0
  PlacedIsGrown s = (t u : Nodes O B) (n over : IRNode) (ks : List IRNode) → IsMade s t n → IsPlaced t u n over ks →
      IsGrown s u over

  -- an operation that was given a region has grown
  abbrev pub RegionIsGrown : Nodes O B → Type 0
  RegionIsGrown s = (t : Nodes O B) (o n : IRNode) → IsRegionAdded s t o n → IsGrown s t o

  -- what has grown twice has grown
  abbrev pub GrownTwice : Nodes O B → Type 0
  GrownTwice s = (t u : Nodes O B) (over : IRNode) → IsStored t → IsGrown s t over → IsGrown t u over → IsGrown s u over

  -- a tree that was made and in which a new node has grown was made
  abbrev pub MadeAndGrown : Nodes O B → Type 0
  MadeAndGrown s = (t u : Nodes O B) (n over : IRNode) → IsStored t → IsMade s t n → is_node_live t over ≡ true →
      is_node_live s over ≡ false → IsGrown t u over → IsMade s u n

  -- where a tree that was made is erased again, no live node has changed
  abbrev pub MadeAndErased : Nodes O B → Type 0
  MadeAndErased s = (t u : Nodes O B) (n : IRNode) → IsMade s t n → IsErased t u n → SameNodes s u

  -- How trees grow from s on.
  pub record Growth (s : Nodes O B) : Type 0 where
    pub placed : PlacedIsGrown s
    pub region : RegionIsGrown s
    pub twice : GrownTwice s
    pub made : MadeAndGrown s
    pub unmade : MadeAndErased s
