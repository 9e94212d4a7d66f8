-- The results of an operation, and whether any of them is used.
use Rattle.std.specs.Prelude.{ℕ, ◌<◌, length}
use Rattle.plir_core.specs.declared.ptr.Ptr.{Ptr}
use Rattle.plir_core.specs.declared.ptr.Operation.{Operation as OperationKind}
use Rattle.plir_core.specs.declared.value.Value.{Value}
use Rattle.plir_core.specs.declared.value.DefiningEntity.TheVariants.{Op}
use Rattle.plir_core.specs.ContextView.{ContextView, result_types_of}
use Rattle.plir_core.specs.ValueUses.{HasUses}

-- the result of an operation at a place, from 0
abbrev pub result_of : Ptr OperationKind → ℕ → Value
result_of op i = record { entity = Op op; index = i }

-- no result of the operation is an operand of a live operation
abbrev pub HasNoUsedResult : {K A T : Type 0} → ContextView K A T → Ptr OperationKind → Type 0
HasNoUsedResult s op = (i : ℕ) → i < length (result_types_of s op) → HasUses s (result_of op i) → ⊥
