-- What is told of operations.
use Rattle.std.specs.Prelude.{ℕ, ◌≤◌, Option, Some, None, length, option_and_then}
use Rattle.std.specs.declared.ops.Range.{Range}
use Rattle.plir_data.specs.declared.op_set.OpKind.{OpKind}
use Rattle.plir_data.specs.declared.op_set.OpKind.TheVariants.{Own}
use Rattle.plir_core.specs.declared.ptr.Ptr.{Ptr}
use Rattle.plir_core.specs.declared.ptr.Operation.{Operation as OperationKind}
use Rattle.plir_core.specs.Contents.{OpView}
use Rattle.plir_core.specs.ContextView.{ContextView, kind_of, op_at, operands_of}
use Rattle.plir_flow.specs.Branches.{Range as Places}

-- the places from a range's start to its end
abbrev pub places_of : Range ℕ → Places
places_of r = (r.start, r.end)

module _ {K A X : Type 0} where
  -- what is told of an operation whose kind this is: what the kind tells, if it is an own one
  abbrev pub at_own_kind : (K → OpView K A → Option X) → OpView K A → OpKind K → Option X
  at_own_kind tells held (Own k) = tells k held
  at_own_kind tells held _ = None

  -- what is told by what an operation holds: what its own kind tells of it; of builtin ones nothing is told
  abbrev pub by_own_kind : (K → OpView K A → Option X) → OpView K A → Option X
  by_own_kind tells held = at_own_kind tells held held.kind

  module _ {T : Type 0} where
    -- what is told of an operation, by what it holds
    abbrev pub told_of : (OpView K A → Option X) → ContextView K A T → Ptr OperationKind → Option X
    told_of tells s op = option_and_then tells (op_at s op)

    -- what an own kind tells by the whole context; of builtin operations nothing is told
    abbrev pub told_at_kind : (K → ContextView K A T → Ptr OperationKind → Option X) → ContextView K A T →
        Ptr OperationKind → Option (OpKind K) → Option X
    told_at_kind tells s op (Some (Own k)) = tells k s op
    told_at_kind tells s op _ = None

    abbrev pub told_by_kind : (K → ContextView K A T → Ptr OperationKind → Option X) → ContextView K A T →
        Ptr OperationKind → Option X
    told_by_kind tells s op = told_at_kind tells s op (kind_of s op)

-- the places are some of those of an operation's operands
abbrev pub IsAmongOperands : {K A T : Type 0} → ContextView K A T → Ptr OperationKind → Places → Type 0
IsAmongOperands s op r = (r.0 ≤ r.1) × (r.1 ≤ length (operands_of s op))
