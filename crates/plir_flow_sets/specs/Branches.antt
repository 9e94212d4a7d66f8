-- Branches, as an op set tells of them.
use Rattle.std.specs.Prelude.{◌≡◌, ◌<◌, ℕ, List, [], Option, Some, None}
use Rattle.plir_core.specs.declared.ptr.Ptr.{Ptr}
use Rattle.plir_core.specs.declared.ptr.Operation.{Operation as OperationKind}
use Rattle.plir_core.specs.declared.value.Value.{Value}
use Rattle.plir_core.specs.Contents.{OpView}
use Rattle.plir_core.specs.ContextView.{ContextView}
use Rattle.plir_flow.specs.Branches.{Range as Places, num_successors, operands_within}
use Rattle.plir_flow_sets.specs.Told.{told_of}

module _ {K A T : Type 0} where
  -- the operands in places that are told; none where none are
  abbrev pub operands_told : ContextView K A T → Ptr OperationKind → Option Places → List Value
  operands_told s op None = []
  operands_told s op (Some r) = operands_within s op r

  -- the values that an operation forwards to a successor
  abbrev pub forwarded_to : (ℕ → OpView K A → Option Places) → ContextView K A T → Ptr OperationKind → ℕ → List Value
  forwarded_to forwards s op successor = operands_told s op (told_of (forwards successor) s op)

  -- each successor gets the operands in these places, as is told
  abbrev pub IsToldBranch : (ℕ → OpView K A → Option Places) → ContextView K A T → Ptr OperationKind → (ℕ → Places) →
      Type 0
  IsToldBranch forwards s op places = (i : ℕ) → i < num_successors s op → told_of (forwards i) s op ≡ Some (places i)
