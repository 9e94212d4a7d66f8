-- What a callback at a node has done so far, in many steps: one relation that composes, where a step alone, as an
-- operation that was unlinked or stands nowhere yet, need not be a lawful call.
use Rattle.std.specs.Prelude.{◌≡◌, ◌≢◌, true, false, List}
use Rattle.plir_core.specs.declared.ptr.Ptr.{Ptr}
use Rattle.plir_core.specs.declared.ptr.Operation.{Operation as OperationKind}
use Rattle.plir_core.specs.declared.ptr.BasicBlock.{BasicBlock as BasicBlockKind}
use Rattle.plir_core.specs.declared.ptr.IRNode.{IRNode}
use Rattle.plir_core.specs.declared.value.Value.{Value}
use Rattle.plir_core.specs.Above.{Reaches}
use Rattle.plir_core.specs.Contents.{OpView, BlockView}
use Rattle.plir_core.specs.ContextView.{ContextView, IsAncestor, given_out}
use Rattle.plir_core.specs.Changes.{SameLive, with_op_edit, with_block_edit}
use Rattle.plir_core.specs.Erase.{IsErased}
use Rattle.plir_core.specs.Made.{IsRegionAdded, IsMade}
use Rattle.plir_core.specs.Placed.{IsPlaced, IsUnlinked}
use Rattle.plir_core.specs.Rewired.{IsRewired}
use Rattle.plir_core.specs.Forest.{Shape, IsBelow, IsForest, look}
use Rattle.plir_walk.specs.Lawful.{Lawful}

-- From s, where a call at n began, to t: every node that was live and was not below n is live, with the same parent,
-- and with the same children unless it is n. What has become live was never given out before. What was given out counts
-- as given out.
pub record ChangedBelow (s : Shape) (n : IRNode) (t : Shape) : Type 0 where
  pub kept : (m : IRNode) → s.live m ≡ true → (IsBelow s n m → ⊥) → (t.live m ≡ true) × (t.parent m ≡ s.parent m) ×
      (m ≢ n → t.children m ≡ s.children m)
  pub fresh : (m : IRNode) → t.live m ≡ true → s.live m ≡ false → s.given m ≡ false
  pub given : (m : IRNode) → s.given m ≡ true → t.given m ≡ true

-- x was below n as the call began, or is new since
abbrev pub WasBelow : Shape → IRNode → IRNode → Type 0
WasBelow s n x = s.live x ≡ true → IsBelow s n x

-- the same, or it is n
abbrev pub WasUnder : Shape → IRNode → IRNode → Type 0
WasUnder s n x = s.live x ≡ true → Reaches s.parent x n

-- The steps of a call at n that began at s, from t, which it has come to, to u: each in the words of the node call that
-- makes it.
pub record StepsBelow (K A T : Type 0) : Type 0 where
  -- nothing is done as it begins
  pub begun : (s : ContextView K A T) (n : IRNode) → IsForest (look s) → ChangedBelow (look s) n (look s)
  -- what it has come to is a lawful change
  pub lawful : (s t : ContextView K A T) (n : IRNode) → IsForest (look s) → IsForest (look t) →
      ChangedBelow (look s) n (look t) → Lawful (look s) n (look t)
  -- a tree is made, which stands nowhere yet
  pub made : (s t u : ContextView K A T) (n x : IRNode) → ChangedBelow (look s) n (look t) → IsMade t.nodes u.nodes x →
      ChangedBelow (look s) n (look u)
  -- a make is refused
  pub refused : (s t u : ContextView K A T) (n : IRNode) → ChangedBelow (look s) n (look t) → SameLive t u →
      ((m : IRNode) → given_out t m ≡ true → given_out u m ≡ true) → ChangedBelow (look s) n (look u)
  -- a region is added to an operation
  pub region : (s t u : ContextView K A T) (n o x : IRNode) → ChangedBelow (look s) n (look t) → WasUnder (look s) n o →
      IsRegionAdded t.nodes u.nodes o x → ChangedBelow (look s) n (look u)
  -- a node is unlinked
  pub unlinked : (s t u : ContextView K A T) (n x : IRNode) → IsForest (look s) → IsForest (look t) →
      ChangedBelow (look s) n (look t) → WasBelow (look s) n x → IsUnlinked t.nodes u.nodes x →
      ChangedBelow (look s) n (look u)
  -- what stands under a node that was unlinked stood under it before
  pub unlinked_under : (s t : ContextView K A T) (x m : IRNode) → IsUnlinked s.nodes t.nodes x → IsAncestor t x m →
      IsAncestor s x m
  -- a node that stands nowhere is put under another
  pub placed : (s t u : ContextView K A T) (n x over : IRNode) (ks : List IRNode) → ChangedBelow (look s) n (look t) →
      WasBelow (look s) n x → WasUnder (look s) n over → IsPlaced t.nodes u.nodes x over ks →
      ChangedBelow (look s) n (look u)
  -- a tree is erased
  pub erased : (s t u : ContextView K A T) (n x : IRNode) → IsForest (look s) → IsForest (look t) →
      ChangedBelow (look s) n (look t) → WasBelow (look s) n x → IsErased t.nodes u.nodes x →
      ChangedBelow (look s) n (look u)
  -- one value comes in place of another one, wherever it is used
  pub rewired : (s t u : ContextView K A T) (n : IRNode) (v w : Value) → ChangedBelow (look s) n (look t) →
      IsRewired t u v w → ChangedBelow (look s) n (look u)
  -- what an operation or a block holds is edited, wherever it stands
  pub op_edit : (s t : ContextView K A T) (n : IRNode) (p : Ptr OperationKind) (f : OpView K A → OpView K A) →
      ChangedBelow (look s) n (look t) → ChangedBelow (look s) n (look (with_op_edit t p f))
  pub block_edit : (s t : ContextView K A T) (n : IRNode) (p : Ptr BasicBlockKind) (f : BlockView A → BlockView A) →
      ChangedBelow (look s) n (look t) → ChangedBelow (look s) n (look (with_block_edit t p f))
