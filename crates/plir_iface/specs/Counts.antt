-- How many regions, results and operands an operation has, and the rules of these numbers.
use Rattle.std.specs.Prelude.{◌≡◌, ◌≤◌, ℕ, List, length, map, Option, Some}
use Rattle.plir_core.specs.declared.ptr.Ptr.{Ptr}
use Rattle.plir_core.specs.declared.ptr.Operation.{Operation as OperationKind}
use Rattle.plir_core.specs.declared.ptr.IRNode.{IRNode}
use Rattle.plir_core.specs.declared.ptr.IRNode.TheVariants.{Operation}
use Rattle.plir_core.specs.declared.value.Value.{Value}
use Rattle.plir_core.specs.declared.value.DefiningEntity.TheVariants.{Op}
use Rattle.plir_core.specs.ContextView.{ContextView, children, operands_of, result_types_of, type_of_value}

-- the result of an operation at an index
abbrev pub result_at : Ptr OperationKind → ℕ → Value
result_at op i = record { entity = Op op; index = i }

module _ {K A T : Type 0} where
  -- the regions of an operation, in order
  abbrev pub regions_of : ContextView K A T → Ptr OperationKind → List IRNode
  regions_of s op = children s (Operation op)

  -- the types of its operands and of its results, in order; each is there, since operands are live
  abbrev pub operand_types : ContextView K A T → Ptr OperationKind → List (Option ℕ)
  operand_types s op = map (type_of_value s) (operands_of s op)

  abbrev pub result_types : ContextView K A T → Ptr OperationKind → List (Option ℕ)
  result_types s op = map Some (result_types_of s op)

  -- how many of each there are
  abbrev pub num_regions : ContextView K A T → Ptr OperationKind → ℕ
  num_regions s op = length (regions_of s op)

  abbrev pub num_results : ContextView K A T → Ptr OperationKind → ℕ
  num_results s op = length (result_types_of s op)

  abbrev pub num_operands : ContextView K A T → Ptr OperationKind → ℕ
  num_operands s op = length (operands_of s op)

  -- the rules
  abbrev pub HasNRegions : ℕ → ContextView K A T → Ptr OperationKind → Type 0
  HasNRegions n s op = num_regions s op ≡ n

  abbrev pub HasAtMostNRegions : ℕ → ContextView K A T → Ptr OperationKind → Type 0
  HasAtMostNRegions n s op = num_regions s op ≤ n

  abbrev pub HasNResults : ℕ → ContextView K A T → Ptr OperationKind → Type 0
  HasNResults n s op = num_results s op ≡ n

  abbrev pub HasAtMostNResults : ℕ → ContextView K A T → Ptr OperationKind → Type 0
  HasAtMostNResults n s op = num_results s op ≤ n

  abbrev pub HasAtLeastNResults : ℕ → ContextView K A T → Ptr OperationKind → Type 0
  HasAtLeastNResults n s op = n ≤ num_results s op

  abbrev pub HasNOpds : ℕ → ContextView K A T → Ptr OperationKind → Type 0
  HasNOpds n s op = num_operands s op ≡ n

  abbrev pub HasAtMostNOpds : ℕ → ContextView K A T → Ptr OperationKind → Type 0
  HasAtMostNOpds n s op = num_operands s op ≤ n

  abbrev pub HasAtLeastNOpds : ℕ → ContextView K A T → Ptr OperationKind → Type 0
  HasAtLeastNOpds n s op = n ≤ num_operands s op
