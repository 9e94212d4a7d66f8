-- The rules of types: which types of an operation's operands or results must pass a test.
use Rattle.std.specs.Prelude.{◌≡◌, ◌<◌, ◌≤◌, ℕ, List, length, Bool, true, false, Option, Some, None}
use Rattle.std.specs.Option.{option_map_or}
use Rattle.plir_data.specs.Types.{TypeView, type_at}
use Rattle.plir_core.specs.declared.ptr.Ptr.{Ptr}
use Rattle.plir_core.specs.declared.ptr.Operation.{Operation as OperationKind}
use Rattle.plir_core.specs.ContextView.{ContextView}
use Rattle.plir_iface.specs.Counts.{operand_types, result_types}
use Rattle.plir_iface.specs.Sides.{type_in}
use Rattle.plir_iface.specs.Places.{IsLongEnough, IsAmong, signed}
use Rattle.plir_iface.specs.declared.places.Places.{Places}
use Rattle.plir_iface.specs.declared.places.Places.TheVariants.{At, Within}

-- the indices from start on and before end
abbrev pub IsBetween : (start end i : ℕ) → Type 0
IsBetween start end i = (start ≤ i) × (i < end)

module _ {K A T : Type 0} (passes : TypeView T → Bool) (s : ContextView K A T) where
  -- the type is there, and passes the test
  abbrev pub passing : Option ℕ → Bool
  passing t = option_map_or (λ h. option_map_or passes (type_at s.types h) false) t false

  abbrev pub Passes : Option ℕ → Type 0
  Passes t = passing t ≡ true

  -- all types at these indices pass
  abbrev pub AllPass : (among : ℕ → Type 0) → List (Option ℕ) → Type 0
  AllPass among ts = (i : ℕ) → among i → Passes (type_in ts i)

  -- the index is the first of these whose type fails
  abbrev pub FailsFirst : (among : ℕ → Type 0) → List (Option ℕ) → ℕ → Type 0
  FailsFirst among ts i = among i × (Passes (type_in ts i) → ⊥) × ((k : ℕ) → among k → k < i → Passes (type_in ts k))

  -- the first of these indices whose type fails, or none if all pass
  abbrev pub IsFirstFailing : (among : ℕ → Type 0) → List (Option ℕ) → Option ℕ → Type 0
  IsFirstFailing among ts None = AllPass among ts
  IsFirstFailing among ts (Some i) = FailsFirst among ts i

  -- all types in the list pass
  abbrev pub EachPasses : List (Option ℕ) → Type 0
  EachPasses ts = AllPass (λ i. i < length ts) ts

  -- the list is long enough for these indices, and all types at them pass
  abbrev pub PassesAt : Places → List (Option ℕ) → Type 0
  PassesAt places ts = IsLongEnough places (length ts) × AllPass (IsAmong places (length ts)) ts

-- The rules, each named after its interface. A type passes if it is of the interface's mark.
module _ {K A T : Type 0} (marks : TypeView T → Bool) (s : ContextView K A T) (op : Ptr OperationKind) where
  abbrev pub HasAllOperandsOfType : Type 0
  HasAllOperandsOfType = EachPasses marks s (operand_types s op)

  abbrev pub HasAllOperandsImplsTy : Type 0
  HasAllOperandsImplsTy = EachPasses marks s (operand_types s op)

  abbrev pub HasOperandNOfType : (n : ℕ) → Type 0
  HasOperandNOfType n = PassesAt marks s (At n) (operand_types s op)

  abbrev pub HasOperandNImplsTy : (n : ℕ) → Type 0
  HasOperandNImplsTy n = PassesAt marks s (At n) (operand_types s op)

  abbrev pub HasOperandsMNOfType : (m n : ℕ) → Type 0
  HasOperandsMNOfType m n = PassesAt marks s (Within m (signed n)) (operand_types s op)

  abbrev pub HasOperandsMNImplsTy : (m n : ℕ) → Type 0
  HasOperandsMNImplsTy m n = PassesAt marks s (Within m (signed n)) (operand_types s op)

  abbrev pub HasAllResultsOfType : Type 0
  HasAllResultsOfType = EachPasses marks s (result_types s op)

  abbrev pub HasAllResultsImplsTy : Type 0
  HasAllResultsImplsTy = EachPasses marks s (result_types s op)

  abbrev pub HasResultNOfType : (n : ℕ) → Type 0
  HasResultNOfType n = PassesAt marks s (At n) (result_types s op)

  abbrev pub HasResultNImplsTy : (n : ℕ) → Type 0
  HasResultNImplsTy n = PassesAt marks s (At n) (result_types s op)

  abbrev pub HasResultsMNOfType : (m n : ℕ) → Type 0
  HasResultsMNOfType m n = PassesAt marks s (Within m (signed n)) (result_types s op)

  abbrev pub HasResultsMNImplsTy : (m n : ℕ) → Type 0
  HasResultsMNImplsTy m n = PassesAt marks s (Within m (signed n)) (result_types s op)
