-- What a callback at a node may do to a context.
use Rattle.std.specs.Prelude.{◌≡◌, ℕ, true, List, Some}
use Rattle.plir_core.specs.declared.ptr.Ptr.{Ptr}
use Rattle.plir_core.specs.declared.ptr.Operation.{Operation as OperationKind}
use Rattle.plir_core.specs.declared.ptr.BasicBlock.{BasicBlock as BasicBlockKind}
use Rattle.plir_core.specs.declared.ptr.IRNode.{IRNode}
use Rattle.plir_core.specs.declared.value.Value.{Value}
use Rattle.plir_core.specs.Contents.{OpView, BlockView}
use Rattle.plir_core.specs.ContextView.{ContextView, IsLive, IsAncestor, given_out, parent_of}
use Rattle.plir_core.specs.WellFormed.{IsWellFormed}
use Rattle.plir_core.specs.Changes.{SameLive, with_op_edit, with_block_edit}
use Rattle.plir_core.specs.Erase.{IsErased}
use Rattle.plir_core.specs.Made.{IsRegionAdded, IsMade}
use Rattle.plir_core.specs.Placed.{IsPlaced, IsPlacedBefore}
use Rattle.plir_core.specs.Rewired.{IsRewired}
use Rattle.plir_core.specs.Forest.{IsBelow, IsForest, look}
use Rattle.plir_walk.specs.Lawful.{Lawful, SameShape}

-- Which changes of a context are lawful calls at a node n. Each is said in the words of the node calls that make it, so
-- that a callback that makes one is lawful by that call's own contract. `own_handles` gives the type handles of the
-- user's own attributes.
pub record LawfulChanges (K A T : Type 0) (own_handles : A → List ℕ) : Type 0 where
  -- every context is a forest
  pub forest : (s : ContextView K A T) → IsWellFormed own_handles s → IsForest (look s)
  -- nothing done
  pub none : (s : ContextView K A T) (n : IRNode) → Lawful (look s) n (look s)
  -- one lawful change after another
  pub both : (s t u : ContextView K A T) (n : IRNode) → IsForest (look s) → Lawful (look s) n (look t) →
      Lawful (look t) n (look u) → Lawful (look s) n (look u)
  -- a lawful change at a node is lawful at each node that it stands under
  pub above : (s t : ContextView K A T) (n r : IRNode) → IsForest (look s) → IsForest (look t) → IsLive s r →
      IsAncestor s r n → Lawful (look s) n (look t) → Lawful (look s) r (look t)
  -- n is live after it
  pub stays : (s t : ContextView K A T) (n : IRNode) → IsForest (look s) → Lawful (look s) n (look t) → IsLive s n →
      IsLive t n
  -- an edit of what an operation or a block holds, wherever it stands
  pub op_edit : (s : ContextView K A T) (n : IRNode) (p : Ptr OperationKind) (f : OpView K A → OpView K A) →
      Lawful (look s) n (look (with_op_edit s p f))
  pub block_edit : (s : ContextView K A T) (n : IRNode) (p : Ptr BasicBlockKind) (f : BlockView A → BlockView A) →
      Lawful (look s) n (look (with_block_edit s p f))
  -- it keeps the shape
  pub op_edit_shape : (s : ContextView K A T) (p : Ptr OperationKind) (f : OpView K A → OpView K A) →
      SameShape (look s) (look (with_op_edit s p f))
  pub block_edit_shape : (s : ContextView K A T) (p : Ptr BasicBlockKind) (f : BlockView A → BlockView A) →
      SameShape (look s) (look (with_block_edit s p f))
  -- One value has come in place of another one, wherever it was used.
  pub rewired : (s t : ContextView K A T) (n : IRNode) (v w : Value) → IsRewired s t v w → Lawful (look s) n (look t)
  pub rewired_shape : (s t : ContextView K A T) (v w : Value) → IsRewired s t v w → SameShape (look s) (look t)
  -- a make that was refused
  pub refused : (s t : ContextView K A T) (n : IRNode) → SameLive s t →
      ((m : IRNode) → given_out s m ≡ true → given_out t m ≡ true) → Lawful (look s) n (look t)
  -- a tree was made, and its root x was put under n, or under a node below it
  pub placed : (s t u : ContextView K A T) (n over x : IRNode) (ks : List IRNode) → IsForest (look s)
      → IsAncestor s n over
      → IsMade s.nodes t.nodes x → IsPlaced t.nodes u.nodes x over ks → Lawful (look s) n (look u)
  -- a tree was made, and its root x was put right before a mark, whose parent is n, or a node below it
  pub placed_before : (s t u : ContextView K A T) (n over x mark : IRNode) → IsForest (look s) → IsAncestor s n over →
      parent_of s mark ≡ Some over → IsMade s.nodes t.nodes x → IsPlacedBefore t.nodes u.nodes x mark →
      Lawful (look s) n (look u)
  -- n was given a region
  pub region : (s t : ContextView K A T) (n x : IRNode) → IsForest (look s) → IsRegionAdded s.nodes t.nodes n x →
      Lawful (look s) n (look t)
  -- a tree below n was erased
  pub erased : (s t : ContextView K A T) (n x : IRNode) → IsBelow (look s) n x → IsErased s.nodes t.nodes x →
      Lawful (look s) n (look t)
