-- What is left where trees of nodes are erased, one after another.
use Rattle.std.specs.Prelude.{◌≡◌, ℕ, ◌+◌, Bool, true, List, [], length, Option, Some}
use Rattle.std.specs.List.{filter}
use Rattle.plir_data.specs.declared.op_set.OpKind.{OpKind}
use Rattle.plir_core.specs.Erase.{IsErased, without_nodes}
use Rattle.plir_core.specs.Forest.{look, IsForest}
use Rattle.plir_core.specs.Unused.{without_tree}
use Rattle.plir_core.specs.Room.{IsFullForOp, IsFullForBlock, IsFullForRegion}
use Rattle.plir_core.specs.WellFormed.{IsWellFormed}
use Rattle.plir_core.specs.ContextView.{ContextView, IsLive, is_live, children, parent_of, op_at, block_at, kind_of}
use Rattle.plir_core.specs.ContextView.{num_live, limit, given_out}
use Rattle.plir_core.specs.declared.ptr.Ptr.{Ptr}
use Rattle.plir_core.specs.declared.ptr.Operation.{Operation as OperationKind}
use Rattle.plir_core.specs.declared.ptr.BasicBlock.{BasicBlock as BlockKind}
use Rattle.plir_core.specs.declared.ptr.IRNode.{IRNode}
use Rattle.plir_core.specs.declared.ptr.IRNode.TheVariants.{Operation, BasicBlock}
use Rattle.plir_walk.specs.Lawful.{Lawful}

-- From s to t some nodes are gone, and nothing else has changed. All of t is told by the list of what is gone, also
-- which slots are free and in which order they are used next.
pub record IsThinned {K A T : Type 0} (s t : ContextView K A T) : Type 0 where
  -- what is gone, in the order in which it was freed, and how many there are
  pub gone : List IRNode
  pub after : t ≡ record s { nodes = without_nodes s.nodes gone }
  pub count : num_live t + length gone ≡ num_live s
  -- nothing is new
  pub old : (n : IRNode) → IsLive t n → IsLive s n
  -- what is left stands where it stood, in its order
  pub children : (n : IRNode) → IsLive t n → children t n ≡ filter (is_live t) (children s n)
  pub parents : (n : IRNode) → IsLive t n → parent_of t n ≡ parent_of s n
  -- and holds what it held
  pub ops : (p : Ptr OperationKind) → IsLive t (Operation p) → op_at t p ≡ op_at s p
  pub blocks : (p : Ptr BlockKind) → IsLive t (BasicBlock p) → block_at t p ≡ block_at s p
  pub types : t.types ≡ s.types
  -- as many nodes may be live, and what was ever given out counts as given out, and nothing more
  pub limit : limit t ≡ limit s
  pub given : (n : IRNode) → given_out t n ≡ given_out s n

-- Where there was room for a new node in s, there is room for it in t.
pub record KeepsRoom {K A T : Type 0} (s t : ContextView K A T) : Type 0 where
  pub op : (num_regions : ℕ) → IsFullForOp t.nodes num_regions → IsFullForOp s.nodes num_regions
  pub block : IsFullForBlock t.nodes → IsFullForBlock s.nodes
  pub region : IsFullForRegion t.nodes → IsFullForRegion s.nodes

-- what is thinned has the room that it had; `own_handles` gives the type handles of the user's own attributes
abbrev pub ThinningKeepsRoom : (K A T : Type 0) → (A → List ℕ) → Type 0
ThinningKeepsRoom K A T own_handles = (s t : ContextView K A T) → IsWellFormed own_handles s →
    IsWellFormed own_handles t → IsThinned s t → KeepsRoom s t

-- One erasure thins the context s, none thins any, and what is thinned again is thinned. The premises of `erased` are
-- the clauses of the call that erases.
pub record ErasuresThin {K A T : Type 0} (s : ContextView K A T) : Type 0 where
  pub erased : (t : ContextView K A T) (n : IRNode) → IsErased s.nodes t.nodes n → t ≡ without_tree s n → IsThinned s t
  pub none : (t : ContextView K A T) → IsForest (look t) → IsThinned t t
  pub both : (t u v : ContextView K A T) → IsThinned t u → IsThinned u v → IsThinned t v

-- Some kinds of operations, by a test of them.
module _ {K A T : Type 0} (kinds : Option (OpKind K) → Bool) where
  -- a node is an operation of one of these kinds
  abbrev pub IsOfKinds : ContextView K A T → IRNode → Type 0
  IsOfKinds s n = (p : Ptr OperationKind) × (n ≡ Operation p) × (kinds (kind_of s p) ≡ true)

  -- From s to t some operations of these kinds are gone, and nothing else has changed.
  pub record IsThinnedOf (s t : ContextView K A T) : Type 0 where
    -- nothing is new, and what is left stands where it stood, in its order, and holds what it held
    pub thinned : IsThinned s t
    -- each operation of another kind is there, and so are regions and blocks
    pub stays : (n : IRNode) → IsLive s n → (IsOfKinds s n → ⊥) → IsLive t n

  -- The same, where all that is gone was below n: s is a forest, and the change is lawful at n.
  pub record IsThinnedBelow (n : IRNode) (s t : ContextView K A T) : Type 0 where
    pub thinned : IsThinnedOf s t
    pub lawful : Lawful (look s) n (look t)
    pub forest : IsForest (look s)

-- A callback at n that erases children of n which have no children, one after another: the context s is where it is
-- about to erase the next one.
pub record LeavesThin {K A T : Type 0} (s : ContextView K A T) : Type 0 where
  -- none is erased
  pub none : (kinds : Option (OpKind K) → Bool) (n : IRNode) (t : ContextView K A T) → IsForest (look t) →
      IsThinnedBelow kinds n t t
  -- p is, after others; the last two premises are the clauses of the call that erases it
  pub more : (kinds : Option (OpKind K) → Bool) (n : IRNode) (r t : ContextView K A T) (p : Ptr OperationKind) →
      IsThinnedBelow kinds n r s → parent_of s (Operation p) ≡ Some n → children s (Operation p) ≡ [] →
      kinds (kind_of s p) ≡ true → t ≡ without_tree s (Operation p) → IsErased s.nodes t.nodes (Operation p) →
      IsThinnedBelow kinds n r t
  -- what was thinned by one call and then by another was thinned
  pub both : (kinds : Option (OpKind K) → Bool) (t u v : ContextView K A T) → IsThinnedOf kinds t u →
      IsThinnedOf kinds u v → IsThinnedOf kinds t v
