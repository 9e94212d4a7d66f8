-- The rules of one type.
use Rattle.std.specs.Prelude.{◌≡◌, ℕ, Option, Some, None}
use Rattle.plir_core.specs.declared.ptr.Ptr.{Ptr}
use Rattle.plir_core.specs.declared.ptr.Operation.{Operation as OperationKind}
use Rattle.plir_core.specs.ContextView.{ContextView}
use Rattle.plir_iface.specs.Counts.{operand_types, result_types}
use Rattle.plir_iface.specs.Sides.{AllSame, type_in}

-- the first of the two that is there
abbrev pub first_of_both : Option ℕ → Option ℕ → Option ℕ
first_of_both None other = other
first_of_both (Some t) other = Some t

module _ {K A T : Type 0} where
  abbrev pub HasSameOperandsType : ContextView K A T → Ptr OperationKind → Type 0
  HasSameOperandsType s op = AllSame (operand_types s op)

  abbrev pub HasSameResultsType : ContextView K A T → Ptr OperationKind → Type 0
  HasSameResultsType s op = AllSame (result_types s op)

  -- the first result and the first operand have one type, where there are both
  abbrev pub HasSameOperandsAndResultType : ContextView K A T → Ptr OperationKind → Type 0
  HasSameOperandsAndResultType s op = (t u : ℕ) → type_in (result_types s op) 0 ≡ Some t →
      type_in (operand_types s op) 0 ≡ Some u → t ≡ u

  -- the type of the first result, if there is one, and else that of the first operand
  abbrev pub first_type : ContextView K A T → Ptr OperationKind → Option ℕ
  first_type s op = first_of_both (type_in (result_types s op) 0) (type_in (operand_types s op) 0)
