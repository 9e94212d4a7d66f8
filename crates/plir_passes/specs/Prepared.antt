-- How far the replacement of an operation has come where nothing is gone yet.
use Rattle.std.specs.Prelude.{◌≡◌, ℕ, Bool, List, ◌∷◌, ◌++◌}
use Rattle.plir_data.specs.declared.op_set.OpKind.{OpKind}
use Rattle.plir_core.specs.declared.ptr.Ptr.{Ptr}
use Rattle.plir_core.specs.declared.ptr.Operation.{Operation as OperationKind}
use Rattle.plir_core.specs.declared.ptr.BasicBlock.{BasicBlock as BasicBlockKind}
use Rattle.plir_core.specs.declared.ptr.IRNode.{IRNode}
use Rattle.plir_core.specs.declared.ptr.IRNode.TheVariants.{Operation, BasicBlock}
use Rattle.plir_core.specs.declared.value.Value.{Value}
use Rattle.plir_core.specs.Contents.{OpView}
use Rattle.plir_core.specs.Changes.{with_op_before}
use Rattle.plir_core.specs.NewOps.{IsOpMade}
use Rattle.plir_core.specs.Placed.{IsPlacedBefore}
use Rattle.plir_core.specs.ContextView.{ContextView, IsLive, children, parent_of, op_at, block_at}
use Rattle.plir_core.specs.ButOperands.{but_operands}
use Rattle.plir_core.specs.Results.{result_of}
use Rattle.plir_passes.specs.Rewritten.{IsRewriting}

module _ {K A T : Type 0} where
  -- From s to t the replacement of an operation op of the block b is prepared: what is to stand in its place stands
  -- right before it, operands that were values of its tree may be others, and nothing is gone.
  pub record IsPrepared (illegal : OpKind K → Bool) (s t : ContextView K A T) (b : Ptr BasicBlockKind)
      (op : Ptr OperationKind) : Type 0 where
    pub rewriting : IsRewriting illegal s t b op
    -- what was live is live and where it was, so op too
    pub live : (n : IRNode) → IsLive s n → IsLive t n
    pub parents : (n : IRNode) → IsLive s n → parent_of t n ≡ parent_of s n
    -- b has what has come right before op, and all other children are as they were
    pub place : (xs ys : List IRNode) → children s (BasicBlock b) ≡ xs ++ Operation op ∷ ys → (ks : List IRNode) ×
        (children t (BasicBlock b) ≡ xs ++ (ks ++ Operation op ∷ ys))
    pub children : (n : IRNode) → IsLive s n → (n ≡ BasicBlock b → ⊥) → children t n ≡ children s n
    -- it holds what it held, but for operands
    pub ops : (p : Ptr OperationKind) → IsLive s (Operation p) → but_operands (op_at t p) ≡ but_operands (op_at s p)
    pub blocks : (q : Ptr BasicBlockKind) → IsLive s (BasicBlock q) → block_at t q ≡ block_at s q

  -- From s to u an operation x was made that holds v and has n new regions, and put right before the operation op.
  -- Nothing else has changed.
  pub record IsPutBefore (s u : ContextView K A T) (op x : Ptr OperationKind) (v : OpView K A) (n : ℕ) : Type 0 where
    pub with_new : ContextView K A T
    pub made : IsOpMade s with_new v n x
    pub placed : IsPlacedBefore with_new.nodes u.nodes (Operation x) (Operation op)
    pub after : u ≡ with_op_before with_new x op

  -- the same of one without regions, whose first result is `value`
  pub record IsResultPutBefore (s u : ContextView K A T) (op : Ptr OperationKind) (value : Value)
      (v : OpView K A) : Type 0 where
    pub new : Ptr OperationKind
    pub value_is : value ≡ result_of new 0
    pub put : IsPutBefore s u op new v 0
