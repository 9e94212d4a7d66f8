-- Which operations hand on one of their operands: what their results stand for.
use Rattle.std.specs.Prelude.{◌≡◌, ◌≢◌, ◌==◌, ℕ, Bool, false, cond, List, [], ◌∷◌, Option, Some, None}
use Rattle.plir_data.specs.declared.op_set.OpKind.{OpKind}
use Rattle.plir_data.specs.declared.op_set.OpKind.TheVariants.{Module, Func, Constant, ForwardRef, Own}
use Rattle.plir_core.specs.declared.ptr.Ptr.{Ptr}
use Rattle.plir_core.specs.declared.ptr.Operation.{Operation as OperationKind}
use Rattle.plir_core.specs.declared.ptr.IRNode.{IRNode}
use Rattle.plir_core.specs.declared.ptr.IRNode.TheVariants.{Operation}
use Rattle.plir_core.specs.declared.value.Value.{Value}
use Rattle.plir_core.specs.Contents.{OpView}
use Rattle.plir_core.specs.Forest.{look, IsBelow}
use Rattle.plir_core.specs.ContextView.{ContextView, type_of_value}
use Rattle.plir_core.specs.ValueUses.{HasUses}
use Rattle.plir_folding.specs.declared.identity_set.Side.{Side}
use Rattle.plir_folding.specs.declared.identity_set.Side.TheVariants.{Left, Right}
use Rattle.plir_folding.specs.Worth.{Integer, constant_of, made_by}
use Rattle.plir_folding.specs.Folded.{result_of}

-- of two operands the one at a side, and the other one
abbrev pub operand_at : Side → Value → Value → Value
operand_at Left x y = x
operand_at Right x y = y

abbrev pub other_at : Side → Value → Value → Value
other_at Left x y = y
other_at Right x y = x

-- whether an integer is there that passes a test
abbrev pub is_met : (Integer → Bool) → Option Integer → Bool
is_met f None = false
is_met f (Some n) = f n

-- whether a type is there, and is the one type of a list
abbrev pub is_of_type : List ℕ → Option ℕ → Bool
is_of_type [] u = false
is_of_type (t ∷ []) None = false
is_of_type (t ∷ []) (Some u) = u == t
is_of_type (t ∷ r ∷ ts) u = false

-- Which of two operands an operation hands on, as its identity says: the left one where the right one is a constant at
-- which it holds, and else the right one where the left one is such a constant.
abbrev pub kept_of : (Side → Integer → Bool) → (Value → Option Integer) → List Value → Option Value
kept_of holds known [] = None
kept_of holds known (x ∷ []) = None
kept_of holds known (x ∷ y ∷ []) = cond (is_met (holds Right) (known y)) (Some x)
    (cond (is_met (holds Left) (known x)) (Some y) None)
kept_of holds known (x ∷ y ∷ z ∷ vs) = None

-- `holds` tells whether the result of an operation of an own kind is its other operand, where the one at a side is an
-- integer.
module _ {K A T : Type 0} (holds : K → Side → Integer → Bool) where
  -- a value that is there, if its type is the one type of a list
  abbrev pub typed_so : ContextView K A T → List ℕ → Option Value → Option Value
  typed_so s ts None = None
  typed_so s ts (Some w) = cond (is_of_type ts (type_of_value s w)) (Some w) None

  abbrev pub stands_by : ContextView K A T → OpKind K → List Value → List ℕ → Option Value
  stands_by s Module vs ts = None
  stands_by s Func vs ts = None
  stands_by s Constant vs ts = None
  stands_by s ForwardRef vs ts = None
  stands_by s (Own k) vs ts = typed_so s ts (kept_of (holds k) (constant_of s) vs)

  -- The operand that an operation of an own kind hands on, if it has two operands, one of which is a constant at which
  -- the identity of its kind holds, and one result, of the type of the other one.
  abbrev pub stands_in : ContextView K A T → Option (OpView K A) → Option Value
  stands_in s None = None
  stands_in s (Some o) = stands_by s o.kind o.operands o.result_types

  -- what a value stands for: it is the result of an operation that hands on this operand
  abbrev pub stands_for : ContextView K A T → Value → Option Value
  stands_for s v = stands_in s (made_by s v)

  -- The result of an operation stands for another value w, and is used: there is something left to be done.
  pub record IsLeft (s : ContextView K A T) (p : Ptr OperationKind) (w : Value) : Type 0 where
    pub stands : stands_for s (result_of p) ≡ Some w
    pub other : w ≢ result_of p
    pub used : HasUses s (result_of p)

  -- nothing is left to be done: the result of an operation stands for no other value, or nothing uses it
  abbrev pub IsPassed : ContextView K A T → Ptr OperationKind → Type 0
  IsPassed s p = (w : Value) → IsLeft s p w → ⊥

  -- the same of all operations below a node
  abbrev pub ArePassed : ContextView K A T → IRNode → Type 0
  ArePassed s r = (p : Ptr OperationKind) → IsBelow (look s) r (Operation p) → IsPassed s p
