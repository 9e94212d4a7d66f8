-- How operations of each kind stand.
use Rattle.std.specs.Prelude.{◌≡◌, ⊤, ℕ, ◌+◌, length, Option, Some, IsSome, slice_get}
use Rattle.plir_data.specs.declared.op_set.OpKind.{OpKind}
use Rattle.plir_data.specs.declared.op_set.OpKind.TheVariants.{Own}
use Rattle.plir_core.specs.declared.ptr.Ptr.{Ptr}
use Rattle.plir_core.specs.declared.ptr.Operation.{Operation as OperationKind}
use Rattle.plir_core.specs.declared.ptr.BasicBlock.{BasicBlock as BlockKind}
use Rattle.plir_core.specs.declared.value.Value.{Value}
use Rattle.plir_core.specs.ContextView.{ContextView, arg_types_of, attributes_of, kind_of, operands_of, successors_of}
use Rattle.plir_core.specs.ContextView.{type_of_value}
use Rattle.plir_iface.specs.Counts.{HasNOpds, HasNResults}
use Rattle.plir_iface.specs.SameTypes.{HasSameOperandsAndResultType, HasSameOperandsType}
use Rattle.sample_dialect.specs.declared.kinds.SampleKind.{SampleKind}
use Rattle.sample_dialect.specs.declared.kinds.SampleKind.TheVariants.{Add, Call, Branch, CondBranch}
use Rattle.sample_dialect.specs.Flow.{callee_in}

module _ {K A T : Type 0} (s : ContextView K A T) (op : Ptr OperationKind) where
  -- it has two operands and one result, all of one type
  pub record IsSum : Type 0 where
    pub operands : HasNOpds 2 s op
    pub results : HasNResults 1 s op
    pub one_type : HasSameOperandsType s op
    pub same : HasSameOperandsAndResultType s op

module _ {K A T : Type 0} (first : ℕ) (s : ContextView K A T) (op : Ptr OperationKind) where
  -- the operand i places behind the first one is of the type of the argument at i of a block, where there are both
  abbrev pub BecomesArgument : Ptr BlockKind → (i : ℕ) → Type 0
  BecomesArgument b i = (v : Value) (t : ℕ) → slice_get (operands_of s op) (first + i) ≡ Some v →
      slice_get (arg_types_of s b) i ≡ Some t → type_of_value s v ≡ Some t

  -- its operands from the first one on become the arguments of a block: as many, of their types
  pub record BecomeArguments (b : Ptr BlockKind) : Type 0 where
    pub count : length (operands_of s op) ≡ first + length (arg_types_of s b)
    pub each : (i : ℕ) → BecomesArgument b i

  -- it has n successors, and its operands from the first one on become the arguments of each
  pub record GoesOn (n : ℕ) : Type 0 where
    pub successors : length (successors_of s op) ≡ n
    pub each : (i : ℕ) (b : Ptr BlockKind) → slice_get (successors_of s op) i ≡ Some b → BecomeArguments b

module _ {A T : Type 0} (s : ContextView SampleKind A T) (op : Ptr OperationKind) where
  -- an operation of a kind is right
  abbrev pub IsRightOf : SampleKind → Type 0
  IsRightOf Add = IsSum s op
  IsRightOf Call = IsSome (callee_in (attributes_of s op))
  IsRightOf Branch = GoesOn 0 s op 1
  IsRightOf CondBranch = GoesOn 1 s op 2
  IsRightOf _ = ⊤

  -- the same of an operation whose kind this is; builtin ones are verified elsewhere
  abbrev pub IsRightBy : Option (OpKind SampleKind) → Type 0
  IsRightBy (Some (Own k)) = IsRightOf k
  IsRightBy _ = ⊤

  abbrev pub IsRight : Type 0
  IsRight = IsRightBy (kind_of s op)
