-- What a change leaves of the nodes that stand apart from it.
use Rattle.std.specs.Prelude.{◌≡◌, ℕ, Bool, true, length, Some, slice_get}
use Rattle.std.proofs.Common.{sym, subst}
use Rattle.std.specs.List.{filter}
use Rattle.plir_data.specs.Types.{TypeView, type_at}
use Rattle.plir_core.specs.declared.ptr.Ptr.{Ptr}
use Rattle.plir_core.specs.declared.ptr.Operation.{Operation as OperationKind}
use Rattle.plir_core.specs.declared.ptr.BasicBlock.{BasicBlock as BasicBlockKind}
use Rattle.plir_core.specs.declared.ptr.IRNode.{IRNode}
use Rattle.plir_core.specs.declared.ptr.IRNode.TheVariants.{Operation, BasicBlock}
use Rattle.plir_core.specs.declared.value.Value.{Value}
use Rattle.plir_core.specs.ContextView.{ContextView, IsLive, children, parent_of, op_at, block_at, operands_of}
use Rattle.plir_core.specs.ContextView.{entity_node, limit}
use Rattle.plir_core.specs.ButOperands.{but_operands}

-- each type keeps its handle; new ones may have come
abbrev pub KeepsTypes : {K A T : Type 0} → ContextView K A T → ContextView K A T → Type 0
KeepsTypes {K} {A} {T} s t = (handle : ℕ) (type : TypeView T) → type_at s.types handle ≡ Some type →
    type_at t.types handle ≡ Some type

-- types that are the same do
pub same-types : {K A T : Type 0} (s t : ContextView K A T) → t.types ≡ s.types → KeepsTypes s t
same-types s t e h x k = subst (λ z. type_at z h ≡ Some x) (sym e) k

-- From s to t each node that stood apart is there, where it stood, and holds what it held; but an operand that is a
-- value of a node that did not stand apart may be another one. How many nodes there may be is the same. Which slots are
-- free is left open.
pub record Keeps {K A T : Type 0} (s t : ContextView K A T) (apart : IRNode → Type 0) : Type 0 where
  pub live : (n : IRNode) → IsLive s n → apart n → IsLive t n
  pub parents : (n : IRNode) → IsLive s n → apart n → parent_of t n ≡ parent_of s n
  -- The children of a node that stood apart: those of them that did are its children in the order in which they were. A
  -- test that only holds of nodes that stood apart picks the same list out of both.
  pub children : (picks : IRNode → Bool) → ((m : IRNode) → picks m ≡ true → IsLive s m × apart m) → (n : IRNode) →
      IsLive s n → apart n → filter picks (children t n) ≡ filter picks (children s n)
  pub ops : (p : Ptr OperationKind) → IsLive s (Operation p) → apart (Operation p) →
      but_operands (op_at t p) ≡ but_operands (op_at s p)
  pub num_operands : (p : Ptr OperationKind) → IsLive s (Operation p) → apart (Operation p) →
      length (operands_of t p) ≡ length (operands_of s p)
  pub operands : (p : Ptr OperationKind) (i : ℕ) (v : Value) → IsLive s (Operation p) → apart (Operation p) →
      slice_get (operands_of s p) i ≡ Some v
      → IsLive s (entity_node v.entity) → apart (entity_node v.entity) → slice_get (operands_of t p) i ≡ Some v
  pub blocks : (b : Ptr BasicBlockKind) → IsLive s (BasicBlock b) → apart (BasicBlock b) → block_at t b ≡ block_at s b
  pub types : KeepsTypes s t
  pub limit : limit t ≡ limit s
