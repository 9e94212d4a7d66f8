-- The operands of an operation and its results as one idea: lists of types.
use Rattle.std.specs.Prelude.{◌≡◌, ◌<◌, ℕ, List, length, Option, slice_get, option_and_then}
use Rattle.plir_core.specs.declared.ptr.Ptr.{Ptr}
use Rattle.plir_core.specs.declared.ptr.Operation.{Operation as OperationKind}
use Rattle.plir_core.specs.ContextView.{ContextView}
use Rattle.plir_iface.specs.Counts.{operand_types, result_types}
use Rattle.plir_iface.specs.declared.side.Side.{Side}
use Rattle.plir_iface.specs.declared.side.Side.TheVariants.{Operands, Results}

-- the type at an index, if there is one
abbrev pub type_in : List (Option ℕ) → ℕ → Option ℕ
type_in ts i = option_and_then (λ t. t) (slice_get ts i)

-- all the types are the same
abbrev pub AllSame : List (Option ℕ) → Type 0
AllSame ts = (i j : ℕ) → i < length ts → j < length ts → type_in ts i ≡ type_in ts j

module _ {K A T : Type 0} where
  abbrev pub types_on : Side → ContextView K A T → Ptr OperationKind → List (Option ℕ)
  types_on Operands s op = operand_types s op
  types_on Results s op = result_types s op
