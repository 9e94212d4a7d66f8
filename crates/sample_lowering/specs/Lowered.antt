-- What the lowering of a sum leaves.
use Rattle.std.specs.Prelude.{◌≡◌, ℕ, Bool, true, false, ◌&&◌, ◌==◌, [], ◌∷◌, length, slice_get, Some}
use Rattle.std.proofs.Common.{Result, Ok, Err}
use Rattle.plir_data.specs.declared.op_set.OpKind.TheVariants.{Own}
use Rattle.plir_core.specs.declared.ptr.Ptr.{Ptr}
use Rattle.plir_core.specs.declared.ptr.Operation.{Operation as OperationKind}
use Rattle.plir_core.specs.declared.ptr.BasicBlock.{BasicBlock as BasicBlockKind}
use Rattle.plir_core.specs.declared.ptr.IRNode.TheVariants.{Operation}
use Rattle.plir_core.specs.declared.value.Value.{Value}
use Rattle.plir_core.specs.Contents.{op_view}
use Rattle.plir_core.specs.ContextView.{ContextView, children, operands_of, result_types_of}
use Rattle.plir_core.specs.Replaced.{with_uses_replaced}
use Rattle.plir_core.specs.Results.{result_of}
use Rattle.plir_core.specs.Unused.{without_tree}
use Rattle.plir_passes.specs.Prepared.{IsPrepared, IsResultPutBefore}
use Rattle.sample_lowering.specs.declared.kinds.ArithKind.{ArithKind}
use Rattle.sample_lowering.specs.declared.kinds.ArithKind.TheVariants.{Neg, Sub}
use Rattle.sample_lowering.specs.declared.lowering.LowerErr.{LowerErr}
use Rattle.sample_lowering.specs.declared.lowering.LowerErr.TheVariants.{Node, Malformed}
use Rattle.sample_lowering.specs.Kinds.{is_sum}

module _ {A T : Type 0} where
  -- whether an operation has two operands, one result and no region
  abbrev pub is_sum_of_two : ContextView ArithKind A T → Ptr OperationKind → Bool
  is_sum_of_two s op = (length (operands_of s op) == 2) && (length (result_types_of s op) == 1) &&
      (length (children s (Operation op)) == 0)

  -- From s to t a sum op of a and b, with a result of the type `ty`, was lowered: a negation of b, and behind it a
  -- difference of a and that, each of that type, were put before it; then the difference came in place of its result,
  -- and it was erased.
  pub record IsLowered (s t : ContextView ArithKind A T) (op : Ptr OperationKind) : Type 0 where
    pub a : Value
    pub b : Value
    pub ty : ℕ
    pub a_is : slice_get (operands_of s op) 0 ≡ Some a
    pub b_is : slice_get (operands_of s op) 1 ≡ Some b
    pub ty_is : slice_get (result_types_of s op) 0 ≡ Some ty
    pub neg : Value
    pub sub : Value
    pub with_neg : ContextView ArithKind A T
    pub with_both : ContextView ArithKind A T
    pub neg_put : IsResultPutBefore s with_neg op neg (op_view (Own Neg) (ty ∷ []) (b ∷ []) [] [])
    pub sub_put : IsResultPutBefore with_neg with_both op sub (op_view (Own Sub) (ty ∷ []) (a ∷ neg ∷ []) [] [])
    pub after : t ≡ without_tree (with_uses_replaced with_both (result_of op 0) sub) (Operation op)

  -- What a call for op leaves by its answer: it was lowered, or it was no sum of two values and nothing was done, or a
  -- new operation was refused.
  abbrev pub IsAnswered : ContextView ArithKind A T → Ptr BasicBlockKind → Ptr OperationKind →
      Result (Unit {0}) LowerErr → ContextView ArithKind A T → Type 0
  IsAnswered s b op (Ok x) t = IsLowered s t op
  IsAnswered s b op (Err Malformed) t = (is_sum_of_two s op ≡ false) × (t ≡ s)
  IsAnswered s b op (Err (Node e)) t = (is_sum_of_two s op ≡ true) × IsPrepared is_sum s t b op
