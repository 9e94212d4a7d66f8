-- Which operations are reached from a root, and what is left where the others are gone.
use Rattle.std.specs.Prelude.{◌≡◌, ◌↔◌, ◌⊎◌, ℕ, zero, suc, Bool, true, false, Some}
use Rattle.plir_data.specs.declared.op_set.OpKind.{OpKind}
use Rattle.plir_data.specs.declared.op_set.OpKind.TheVariants.{Module, Func, Constant, ForwardRef, Own}
use Rattle.plir_store.specs.Members.{Has}
use Rattle.plir_core.specs.declared.ptr.Ptr.{Ptr}
use Rattle.plir_core.specs.declared.ptr.Operation.{Operation as OperationKind}
use Rattle.plir_core.specs.declared.ptr.BasicBlock.{BasicBlock as BlockKind}
use Rattle.plir_core.specs.declared.ptr.IRNode.{IRNode}
use Rattle.plir_core.specs.declared.ptr.IRNode.TheVariants.{Operation, BasicBlock}
use Rattle.plir_core.specs.declared.value.Value.{Value}
use Rattle.plir_core.specs.declared.value.DefiningEntity.{DefiningEntity}
use Rattle.plir_core.specs.declared.value.DefiningEntity.TheVariants.{Op, Block}
use Rattle.plir_core.specs.ContextView.{ContextView, IsAncestor, IsLive, kind_of, op_above, operands_of, successors_of}
use Rattle.plir_walk.specs.Thinned.{IsThinned}
use Rattle.plir_passes.specs.Legal.{is_kind}

-- Whether operations of a kind do something besides their results: modules, functions and forward references do, a
-- constant does not, and of the user's own kinds those do that have an effect.
abbrev pub acts : {K : Type 0} → (K → Bool) → OpKind K → Bool
acts effect Module = true
acts effect Func = true
acts effect Constant = false
acts effect ForwardRef = true
acts effect (Own k) = effect k

-- whether operations of a kind end a block: no builtin kind does
abbrev pub ends_block : {K : Type 0} → (K → Bool) → OpKind K → Bool
ends_block ends (Own k) = ends k
ends_block ends _ = false

-- The least set that holds what `first` holds of, and with a thing all that it needs: what is reached in k steps, and
-- what is reached.
module _ {X : Type 0} (first : X → Type 0) (needs : X → X → Type 0) where
  abbrev pub IsReachedIn : ℕ → X → Type 0
  IsReachedIn zero q = first q
  IsReachedIn (suc k) q = (p : X) × IsReachedIn k p × needs p q

  abbrev pub IsReachedFrom : X → Type 0
  IsReachedFrom q = (k : ℕ) × IsReachedIn k q

module _ {K A T : Type 0} (s : ContextView K A T) where
  -- a block stands in a region of the operation q
  abbrev pub IsBlockOf : Ptr OperationKind → Ptr BlockKind → Type 0
  IsBlockOf q b = op_above s (BasicBlock b) ≡ Some (Operation q)

  -- a value is a result of the operation q, or an argument of a block of it
  abbrev pub IsFrom : Ptr OperationKind → DefiningEntity → Type 0
  IsFrom q (Op p) = p ≡ q
  IsFrom q (Block b) = IsBlockOf q b

  -- an operand of p comes from q, and a successor of p is a block of q
  abbrev pub HasOperandFrom : Ptr OperationKind → Ptr OperationKind → Type 0
  HasOperandFrom p q = (v : Value) × Has (operands_of s p) v × IsFrom q v.entity

  abbrev pub HasSuccessorOf : Ptr OperationKind → Ptr OperationKind → Type 0
  HasSuccessorOf p q = (b : Ptr BlockKind) × Has (successors_of s p) b × IsBlockOf q b

  -- q stands in a block of p, with no other operation between
  abbrev pub StandsIn : Ptr OperationKind → Ptr OperationKind → Type 0
  StandsIn p q = op_above s (Operation q) ≡ Some (Operation p)

module _ {K A T : Type 0} (ends : K → Bool) (s : ContextView K A T) where
  -- The operation p needs q: an operand of p comes from q, a successor of p is a block of q, p stands in q, or q stands
  -- in p and is of a kind that ends a block.
  abbrev pub Needs : Ptr OperationKind → Ptr OperationKind → Type 0
  Needs p q =
      HasOperandFrom s p q ⊎ (HasSuccessorOf s p q ⊎ (StandsIn s q p ⊎
      (StandsIn s p q × (is_kind (ends_block ends) (kind_of s q) ≡ true))))

module _ {K A T : Type 0} (s : ContextView K A T) (r : Ptr OperationKind) where
  -- an operation is the root, or stands below it
  abbrev pub IsUnder : Ptr OperationKind → Type 0
  IsUnder q = IsAncestor s (Operation r) (Operation q)

module _ {K A T : Type 0} (effect ends : K → Bool) (s : ContextView K A T) (r : Ptr OperationKind) where
  -- an operation stays by itself: it is the root, or does something besides its results
  abbrev pub StaysItself : Ptr OperationKind → Type 0
  StaysItself q = IsUnder s r q × ((q ≡ r) ⊎ (is_kind (acts effect) (kind_of s q) ≡ true))

  -- p needs q, which is the root or stands below it
  abbrev pub NeedsUnder : Ptr OperationKind → Ptr OperationKind → Type 0
  NeedsUnder p q = IsUnder s r q × Needs ends s p q

  -- Reached is what stays by itself, and what is needed by what is reached: so operations that need one another alone
  -- are not reached, nor are the operations in a region of one that is not.
  abbrev pub IsReached : Ptr OperationKind → Type 0
  IsReached q = IsReachedFrom StaysItself NeedsUnder q

  -- an operation is the root or stands below it, and is not reached
  abbrev pub IsUnreached : Ptr OperationKind → Type 0
  IsUnreached q = IsUnder s r q × (IsReached q → ⊥)

  -- each operation at or below the root is reached
  abbrev pub AreAllReached : Type 0
  AreAllReached = (q : Ptr OperationKind) → IsUnder s r q → IsReached q

  -- From s to t, of the operations at or below the root exactly those are left that are reached, and each node is
  -- left that stands at or below none that is not. What is left stands where it stood, in its order, and holds what
  -- it held; all of t is told by the list of what is gone.
  pub record IsReachedLeft (t : ContextView K A T) : Type 0 where
    pub ops : (p : Ptr OperationKind) → IsUnder s r p → IsLive t (Operation p) ↔ IsReached p
    pub nodes : (n : IRNode) → IsLive s n →
        ((p : Ptr OperationKind) → IsUnreached p → IsAncestor s (Operation p) n → ⊥) → IsLive t n
    pub thinned : IsThinned s t
