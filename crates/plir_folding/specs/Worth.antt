-- What integers values are known to be: constants, and what operations on constants fold to.
use Rattle.std.specs.Prelude.{◌≡◌, ◌==◌, ℕ, zero, suc, cond, List, [], ◌∷◌, Option, Some, None, option_and_then}
use Rattle.std.specs.Prelude.{slice_get}
use Rattle.plir_data.specs.AttrView.{AttrView, leaf, integer}
use Rattle.plir_data.specs.Dictionary.{dict_get}
use Rattle.plir_data.specs.Keys.{value_key}
use Rattle.plir_data.specs.declared.op_set.OpKind.{OpKind}
use Rattle.plir_data.specs.declared.op_set.OpKind.TheVariants.{Module, Func, Constant, ForwardRef, Own}
use Rattle.plir_data.specs.declared.plain_attrs.IntegerAttr.{IntegerAttr}
use Rattle.plir_core.specs.declared.ptr.Ptr.{Ptr}
use Rattle.plir_core.specs.declared.ptr.Operation.{Operation as OperationKind}
use Rattle.plir_core.specs.declared.ptr.IRNode.{IRNode}
use Rattle.plir_core.specs.declared.ptr.IRNode.TheVariants.{Operation}
use Rattle.plir_core.specs.declared.value.Value.{Value}
use Rattle.plir_core.specs.declared.value.DefiningEntity.{DefiningEntity}
use Rattle.plir_core.specs.declared.value.DefiningEntity.TheVariants.{Op, Block}
use Rattle.plir_core.specs.Contents.{OpView}
use Rattle.plir_core.specs.Forest.{look, IsBelow}
use Rattle.plir_core.specs.ContextView.{ContextView, op_at, operands_of}

-- An integer of a type, by the type's handle: its width and its bits.
pub record Integer : Type 0 where
  pub type : ℕ
  pub width : ℕ
  pub bits : ℕ

-- an attribute of an integer
abbrev pub integer_of : IntegerAttr → Integer
integer_of a = record { type = a.ty; width = a.value.width; bits = a.value.bits }

abbrev pub attr_of : {A : Type 0} → Integer → AttrView A
attr_of n = leaf (integer n.type n.width n.bits)

-- the integer that an attribute is, if it is one
abbrev pub integer_in : {A : Type 0} → AttrView A → Option Integer
integer_in (leaf (integer t w b)) = Some (record { type = t; width = w; bits = b })
integer_in _ = None

-- the operation whose first result a value is, if it is one
abbrev pub maker_in : DefiningEntity → ℕ → Option (Ptr OperationKind)
maker_in (Op p) zero = Some p
maker_in (Op p) (suc i) = None
maker_in (Block b) i = None

abbrev pub maker_of : Value → Option (Ptr OperationKind)
maker_of v = maker_in v.entity v.index

-- what f makes of two integers that are there
abbrev pub of_both : (Integer → Integer → Option Integer) → Option Integer → Option Integer → Option Integer
of_both f None y = None
of_both f (Some x) None = None
of_both f (Some x) (Some y) = f x y

-- what f makes of two values that are all there are
abbrev pub of_two : (Value → Value → Option Integer) → List Value → Option Integer
of_two f [] = None
of_two f (x ∷ []) = None
of_two f (x ∷ y ∷ []) = f x y
of_two f (x ∷ y ∷ z ∷ vs) = None

-- an integer, if it is there and of the one type of a list
abbrev pub of_type : List ℕ → Option Integer → Option Integer
of_type ts None = None
of_type [] (Some n) = None
of_type (t ∷ []) (Some n) = cond (n.type == t) (Some n) None
of_type (t ∷ u ∷ ts) (Some n) = None

-- the first of two integers, if it is there, and else the second
abbrev pub first_of : Option Integer → Option Integer → Option Integer
first_of (Some x) y = Some x
first_of None y = y

module _ {K A : Type 0} where
  abbrev pub constant_by : OpKind K → List (List ℕ × AttrView A) → Option Integer
  constant_by Module es = None
  constant_by Func es = None
  constant_by Constant es = option_and_then integer_in (dict_get es value_key)
  constant_by ForwardRef es = None
  constant_by (Own k) es = None

  -- the integer that an operation is a constant of, if it is one
  abbrev pub constant_in : Option (OpView K A) → Option Integer
  constant_in None = None
  constant_in (Some o) = constant_by o.kind o.attributes

-- `fold` gives what an operation of an own kind makes of two integers, where that is known.
module _ {K : Type 0} (fold : K → Integer → Integer → Option Integer) (known : Value → Option Integer) where
  abbrev pub folded_by : OpKind K → List Value → List ℕ → Option Integer
  folded_by Module vs ts = None
  folded_by Func vs ts = None
  folded_by Constant vs ts = None
  folded_by ForwardRef vs ts = None
  folded_by (Own k) vs ts = of_type ts (of_two (λ x y. of_both (fold k) (known x) (known y)) vs)

  -- What an operation of an own kind folds to, if it has two operands, which are known, and one result, whose type is
  -- that of what it folds to.
  abbrev pub folded_in : {A : Type 0} → Option (OpView K A) → Option Integer
  folded_in None = None
  folded_in (Some o) = folded_by o.kind o.operands o.result_types

module _ {K A T : Type 0} where
  -- what the operation holds whose first result a value is
  abbrev pub held_at : ContextView K A T → Option (Ptr OperationKind) → Option (OpView K A)
  held_at s None = None
  held_at s (Some p) = op_at s p

  abbrev pub made_by : ContextView K A T → Value → Option (OpView K A)
  made_by s v = held_at s (maker_of v)

  -- the integer that a value is a constant of, if it is one
  abbrev pub constant_of : ContextView K A T → Value → Option Integer
  constant_of s v = constant_in (made_by s v)

  module _ (fold : K → Integer → Integer → Option Integer) where
    -- what a value folds to: it is the result of an operation on two constants, and this is what that folds to
    abbrev pub folded : ContextView K A T → Value → Option Integer
    folded s v = folded_in fold (constant_of s) (made_by s v)

    -- what a value is worth, as one sees who looks at d operations, one above the other, at most: a constant its
    -- integer, the result of another operation what that folds to where its operands are worth what they are
    abbrev pub worth : ℕ → ContextView K A T → Value → Option Integer
    worth zero s v = None
    worth (suc d) s v = first_of (constant_of s v) (folded_in fold (worth d s) (made_by s v))

    -- a value evaluates to an integer
    abbrev pub Evaluates : ContextView K A T → Value → Integer → Type 0
    Evaluates s v n = (d : ℕ) × (worth d s v ≡ Some n)

    -- the operand of an operation at an index does not fold
    abbrev pub IsUnfolded : ContextView K A T → Ptr OperationKind → ℕ → Type 0
    IsUnfolded s p i = (v : Value) → slice_get (operands_of s p) i ≡ Some v → folded s v ≡ None

    -- no operand of an operation folds
    abbrev pub IsSettled : ContextView K A T → Ptr OperationKind → Type 0
    IsSettled s p = (i : ℕ) → IsUnfolded s p i

    -- no operand of an operation below a node folds
    abbrev pub AreSettled : ContextView K A T → IRNode → Type 0
    AreSettled s r = (p : Ptr OperationKind) → IsBelow (look s) r (Operation p) → IsSettled s p
