-- What a rewrite may do, in the words of the node calls that make it.
use Rattle.std.specs.Prelude.{◌≡◌, ℕ, Bool, true, false, List, [], length, Some}
use Rattle.plir_data.specs.declared.op_set.OpKind.{OpKind}
use Rattle.plir_core.specs.declared.ptr.Ptr.{Ptr}
use Rattle.plir_core.specs.declared.ptr.Operation.{Operation as OperationKind}
use Rattle.plir_core.specs.declared.ptr.BasicBlock.{BasicBlock as BasicBlockKind}
use Rattle.plir_core.specs.declared.ptr.IRNode.{IRNode}
use Rattle.plir_core.specs.declared.ptr.IRNode.TheVariants.{Operation, BasicBlock}
use Rattle.plir_core.specs.declared.value.Value.{Value}
use Rattle.plir_core.specs.declared.value.DefiningEntity.TheVariants.{Op}
use Rattle.plir_core.specs.Above.{Reaches}
use Rattle.plir_core.specs.Changes.{SameLive, with_op_before}
use Rattle.plir_core.specs.Erase.{IsErased}
use Rattle.plir_core.specs.Made.{IsMade}
use Rattle.plir_core.specs.Placed.{IsPlacedBefore}
use Rattle.plir_core.specs.Contents.{OpView}
use Rattle.plir_core.specs.ContextView.{ContextView, IsLive, IsValueLive, children, parent_of, given_out, op_at}
use Rattle.plir_core.specs.ContextView.{entity_node, result_types_of, type_of_value}
use Rattle.plir_core.specs.Results.{result_of}
use Rattle.plir_core.specs.Rewired.{IsRewired}
use Rattle.plir_core.specs.Unused.{IsUnusedOutside, without_tree}
use Rattle.plir_core.specs.WellFormed.{IsWellFormed}
use Rattle.plir_passes.specs.Legal.{is_illegal}
use Rattle.plir_passes.specs.Kept.{KeepsTypes}
use Rattle.plir_passes.specs.Prepared.{IsPrepared, IsPutBefore}
use Rattle.plir_passes.specs.Rewritten.{IsRewriting, IsReplaced}

-- From s to t an operation op was replaced by one that was made: a tree was made, its root was put right before op, and
-- op was erased.
pub record IsReplacedByNew {K A T : Type 0} (s t : ContextView K A T) (op : Ptr OperationKind) : Type 0 where
  pub new : Ptr OperationKind
  pub with_new : ContextView K A T
  pub with_both : ContextView K A T
  pub made : IsMade s.nodes with_new.nodes (Operation new)
  pub placed : IsPlacedBefore with_new.nodes with_both.nodes (Operation new) (Operation op)
  pub erased : IsErased with_both.nodes t.nodes (Operation op)

-- Rewrites of an operation op of a block b. The last premises are the clauses of the calls that make them.
-- `own_handles` gives the type handles of the user's own attributes.
pub record Replacements (K A T : Type 0) (own_handles : A → List ℕ) : Type 0 where
  -- a make that was refused, or nothing done
  pub refused : (illegal : OpKind K → Bool) (s t : ContextView K A T) (b : Ptr BasicBlockKind) (op : Ptr OperationKind)
      → IsWellFormed own_handles s → SameLive s t → ((n : IRNode) → given_out s n ≡ true → given_out t n ≡ true) →
      IsRewriting illegal s t b op
  -- a tree was made, whose root x is a legal operation, and put right before op
  pub added : (illegal : OpKind K → Bool) (s t u : ContextView K A T) (b : Ptr BasicBlockKind)
      (op x : Ptr OperationKind)
      → IsWellFormed own_handles s → IsWellFormed own_handles u → parent_of s (Operation op) ≡ Some (BasicBlock b) →
      IsMade s.nodes t.nodes (Operation x) → KeepsTypes s t
      → is_illegal illegal t (Operation x) ≡ false → IsPlacedBefore t.nodes u.nodes (Operation x) (Operation op) →
      u ≡ with_op_before t x op →
      IsRewriting illegal s u b op × IsLive u (Operation op)
  -- and then op was erased
  pub replaced : (illegal : OpKind K → Bool) (s t u v : ContextView K A T) (b : Ptr BasicBlockKind)
      (op x : Ptr OperationKind)
      → IsWellFormed own_handles s → IsWellFormed own_handles u → IsWellFormed own_handles v →
      parent_of s (Operation op) ≡ Some (BasicBlock b) → IsMade s.nodes t.nodes (Operation x) → KeepsTypes s t
      → is_illegal illegal t (Operation x) ≡ false → IsPlacedBefore t.nodes u.nodes (Operation x) (Operation op) →
      u ≡ with_op_before t x op → IsErased u.nodes v.nodes (Operation op) → v ≡ without_tree u (Operation op)
      → IsRewriting illegal s v b op × IsReplaced s v b op
  -- Of a replacement that is made in steps, `IsPrepared` is what the steps before the erasure leave, each alone and one
  -- after another: nothing done, and a make that was refused;
  pub begun : (illegal : OpKind K → Bool) (s : ContextView K A T) (b : Ptr BasicBlockKind) (op : Ptr OperationKind)
      → IsPrepared illegal s s b op
  pub unmade : (illegal : OpKind K → Bool) (s t : ContextView K A T) (b : Ptr BasicBlockKind) (op : Ptr OperationKind)
      → IsWellFormed own_handles s → SameLive s t → ((n : IRNode) → given_out s n ≡ true → given_out t n ≡ true) →
      IsPrepared illegal s t b op
  -- a tree was made, whose root x is a legal operation, and put right before op;
  pub prepared : (illegal : OpKind K → Bool) (s t u : ContextView K A T) (b : Ptr BasicBlockKind)
      (op x : Ptr OperationKind)
      → IsWellFormed own_handles s → IsWellFormed own_handles u → parent_of s (Operation op) ≡ Some (BasicBlock b) →
      IsMade s.nodes t.nodes (Operation x) → KeepsTypes s t
      → is_illegal illegal t (Operation x) ≡ false → IsPlacedBefore t.nodes u.nodes (Operation x) (Operation op) →
      u ≡ with_op_before t x op → IsPrepared illegal s u b op
  -- the same of one operation, which is live and holds what it was made with;
  pub put : (illegal : OpKind K → Bool) (s u : ContextView K A T) (b : Ptr BasicBlockKind) (op x : Ptr OperationKind)
      (v : OpView K A) (n : ℕ)
      → IsWellFormed own_handles s → IsWellFormed own_handles u → parent_of s (Operation op) ≡ Some (BasicBlock b) →
      illegal v.kind ≡ false → IsPutBefore s u op x v n →
      IsPrepared illegal s u b op × IsLive u (Operation x) × (op_at u x ≡ Some v)
  -- another value has come in place of a value of the tree of op.
  pub rewired : (illegal : OpKind K → Bool) (s t : ContextView K A T) (b : Ptr BasicBlockKind) (op : Ptr OperationKind)
      (v w : Value) → Reaches (parent_of s) (entity_node v.entity) (Operation op) → IsRewired s t v w →
      IsPrepared illegal s t b op
  pub then : (illegal : OpKind K → Bool) (s t u : ContextView K A T) (b : Ptr BasicBlockKind) (op : Ptr OperationKind)
      → IsWellFormed own_handles s → IsPrepared illegal s t b op → IsPrepared illegal t u b op →
      IsPrepared illegal s u b op
  -- What was live then is so, with its types.
  pub value : (illegal : OpKind K → Bool) (s t : ContextView K A T) (b : Ptr BasicBlockKind) (op : Ptr OperationKind)
      (v : Value) → IsPrepared illegal s t b op → IsValueLive s v →
      IsValueLive t v × (type_of_value t v ≡ type_of_value s v)
  pub results : (illegal : OpKind K → Bool) (s t : ContextView K A T) (b : Ptr BasicBlockKind)
      (op p : Ptr OperationKind) → IsPrepared illegal s t b op → IsLive s (Operation p) →
      result_types_of t p ≡ result_types_of s p
  -- At the end op is erased: nothing uses it, if it has no regions and a value of another node came in place of its one
  -- result.
  pub unused : (s t : ContextView K A T) (op : Ptr OperationKind) (w : Value) → IsWellFormed own_handles t →
      length (result_types_of s op) ≡ 1 → children s (Operation op) ≡ [] → (w.entity ≡ Op op → ⊥) →
      IsRewired s t (result_of op 0) w → IsUnusedOutside t (Operation op)
  pub erased : (illegal : OpKind K → Bool) (s t u : ContextView K A T) (b : Ptr BasicBlockKind)
      (op : Ptr OperationKind)
      → IsWellFormed own_handles s → IsWellFormed own_handles t → IsWellFormed own_handles u →
      parent_of s (Operation op) ≡ Some (BasicBlock b) → IsPrepared illegal s t b op →
      IsErased t.nodes u.nodes (Operation op) → u ≡ without_tree t (Operation op) →
      IsRewriting illegal s u b op × IsReplaced s u b op
  -- Rewritings, done or given up midway, one after another.
  pub both : (illegal : OpKind K → Bool) (s t u : ContextView K A T) (b : Ptr BasicBlockKind) (op : Ptr OperationKind)
      → IsWellFormed own_handles s → IsRewriting illegal s t b op → IsRewriting illegal t u b op →
      IsRewriting illegal s u b op
