-- Which values are used, and how often.
use Rattle.std.specs.Prelude.{ℕ, Contains, List, length, count_by}
use Rattle.plir_store.specs.Table.{content_at}
use Rattle.plir_core.specs.declared.ptr.Ptr.{Ptr}
use Rattle.plir_core.specs.declared.ptr.Operation.{Operation as OperationKind}
use Rattle.plir_core.specs.declared.ptr.IRNode.TheVariants.{Operation}
use Rattle.plir_core.specs.declared.value.Value.{Value}
use Rattle.plir_core.specs.ContextView.{ContextView, IsLive, operands_of, operands_in}
use Rattle.plir_core.specs.SameValue.{same_value}
use Rattle.plir_core.specs.Uses.{total}

-- how many of the values are v
abbrev pub times_in : Value → List Value → ℕ
times_in v xs = count_by (λ x. same_value x v) xs

module _ {K A T : Type 0} where
  -- the value is an operand of what the slot i holds
  abbrev pub IsOperandAt : ContextView K A T → Value → ℕ → Type 0
  IsOperandAt s v i = Contains (operands_in (content_at s.nodes.ops i)) v

  -- the value is an operand of a live operation
  abbrev pub HasUses : ContextView K A T → Value → Type 0
  HasUses s v = (p : Ptr OperationKind) × (IsLive s (Operation p) × Contains (operands_of s p) v)

  -- how many operands of what the slot i holds are the value; a free slot has none
  abbrev pub uses_in_slot : ContextView K A T → Value → ℕ → ℕ
  uses_in_slot s v i = times_in v (operands_in (content_at s.nodes.ops i))

  -- how many operands of live operations are the value, those of an operation each
  abbrev pub num_uses_of : ContextView K A T → Value → ℕ
  num_uses_of s v = total (uses_in_slot s v) (length s.nodes.ops.slots)
