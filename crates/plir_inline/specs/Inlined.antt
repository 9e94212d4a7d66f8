-- A copy of a block is put in place of a call.
use Rattle.std.specs.Prelude.{◌≡◌, ℕ, IsSome, List, [], ◌∷◌, ◌++◌, Some, false, map, option_map, true}
use Rattle.plir_data.specs.CallSites.{inlined_at}
use Rattle.plir_data.specs.declared.location.Location.{Location}
use Rattle.plir_core.specs.declared.ptr.Ptr.{Ptr}
use Rattle.plir_core.specs.declared.ptr.Operation.{Operation as OperationKind}
use Rattle.plir_core.specs.declared.ptr.BasicBlock.{BasicBlock as BlockKind}
use Rattle.plir_core.specs.declared.ptr.IRNode.{IRNode}
use Rattle.plir_core.specs.declared.ptr.IRNode.TheVariants.{Operation, Region, BasicBlock}
use Rattle.plir_core.specs.declared.value.Value.{Value}
use Rattle.plir_core.specs.declared.value.DefiningEntity.TheVariants.{Op, Block}
use Rattle.plir_core.specs.Contents.{OpView}
use Rattle.plir_core.specs.ContextView.{ContextView, IsLive, IsAncestor, arg_types_of, block_at, children, given_out}
use Rattle.plir_core.specs.ContextView.{is_live, limit, location_of, op_at, operands_of, parent_of, result_types_of}
use Rattle.plir_core.specs.ContextView.{type_of_value}
use Rattle.plir_copies.specs.Images.{Images, blocks_in, for_call, no_images, value_in}
use Rattle.plir_copies.specs.Trees.{Copies, HoldsCopies, node_copy}
use Rattle.plir_inline.specs.Branches.{NoBranchBack}
use Rattle.plir_inline.specs.Given.{NoneFrom, given, with_operands_by}

-- each value is of the type at its place, and there are as many
abbrev pub AreOfTypes : {K A T : Type 0} → ContextView K A T → List Value → List ℕ → Type 0
AreOfTypes s vs ts = map (type_of_value s) vs ≡ map Some ts

-- The call stands where what is in the block can come.
pub record CanStand {K A T : Type 0} (s : ContextView K A T) (call : Ptr OperationKind)
    (block : Ptr BlockKind) : Type 0 where
  pub call_live : IsLive s (Operation call)
  pub block_live : IsLive s (BasicBlock block)
  -- the call stands in a block, where the copies come
  pub in_block : IsSome (parent_of s (Operation call))
  -- it has no regions, which would be lost
  pub leaf : children s (Operation call) ≡ []
  -- no operand of it is a result of its own, in whose place that may come
  pub none_own : NoneFrom (Op call) (operands_of s call)
  -- its operands are as many as the block's arguments, and of their types
  pub arguments : AreOfTypes s (operands_of s call) (arg_types_of s block)
  -- it does not stand below the block, which is to stay as it is
  pub outside : IsAncestor s (BasicBlock block) (Operation call) → ⊥
  -- no operation below the block branches to it: no copy of the block is left to which the operation's copy could
  pub no_branch : NoBranchBack s block

-- What an operation hands back can come in place of the call's results.
pub record CanEnd {K A T : Type 0} (s : ContextView K A T) (call last : Ptr OperationKind) : Type 0 where
  -- it has no regions and no results, which would be lost
  pub leaf : children s (Operation last) ≡ []
  pub bare : result_types_of s last ≡ []
  -- what it hands back is as much as the call has results, and of their types
  pub results : AreOfTypes s (operands_of s last) (result_types_of s call)
  -- and none of it is a result of the call, in whose place it comes
  pub none_back : NoneFrom (Op call) (operands_of s last)

-- A copy of the block can come in place of the call.
pub record CanInline {K A T : Type 0} (s : ContextView K A T) (call : Ptr OperationKind)
    (block : Ptr BlockKind) : Type 0 where
  pub stand : CanStand s call block
  -- the block has a last operation
  pub body : List IRNode
  pub last : Ptr OperationKind
  pub ends : children s (BasicBlock block) ≡ body ++ Operation last ∷ []
  pub end : CanEnd s call last

module _ {K A T : Type 0} (s t : ContextView K A T) (call : Ptr OperationKind) (block : Ptr BlockKind)
    (last : Ptr OperationKind) (c : Copies) (m : Images) where
  -- what an operand of a copied operation has become before the call's results are given: its copy, if it comes from
  -- the block's tree; but the call's operand at its place, if it is an argument of the block; else itself
  abbrev pub copied : Value → Value
  copied v = given (Block (c.block block)) (operands_of s call) (value_in m v)

  -- the call's results become what the block's last operation hands back
  abbrev pub answered : Value → Value
  answered v = given (Op call) (map copied (operands_of s last)) v

  -- what a copied operation holds: the same, but for its operands and successors; and where it was written, with the
  -- place of the call
  abbrev pub op_inlined : OpView K A → OpView K A
  op_inlined o = record o {
    operands = map (λ v. answered (copied v)) o.operands;
    successors = blocks_in m o.successors;
    location = inlined_at o.location m.call;
  }

  abbrev pub HoldsTheSame : IRNode → Type 0
  HoldsTheSame (Operation p) = op_at t (c.op p) ≡ option_map op_inlined (op_at s p)
  HoldsTheSame (Region p) = Unit {0}
  HoldsTheSame (BasicBlock p) = block_at t (c.block p) ≡ block_at s p

  -- The copy of a node is new and live, holds the same, and its children are the copies of the node's, in their order.
  pub record IsInlinedNode (n : IRNode) : Type 0 where
    pub new : is_live s (node_copy c n) ≡ false
    pub live : IsLive t (node_copy c n)
    pub holds : HoldsTheSame n
    pub children : children t (node_copy c n) ≡ map (node_copy c) (children s n)

  -- the node stands below the block, and is not its last operation
  pub record IsInBody (n : IRNode) : Type 0 where
    pub below : IsAncestor s (BasicBlock block) n
    pub not_block : n ≡ BasicBlock block → ⊥
    pub not_last : n ≡ Operation last → ⊥

-- From s to t copies of what stands in the block, but for its last operation, have come in place of the call, in their
-- order, and nothing else has changed but for the uses of the call's results.
pub record IsInlined {K A T : Type 0} (s t : ContextView K A T) (call : Ptr OperationKind)
    (block : Ptr BlockKind) : Type 0 where
  -- the block's last operation, and those before it
  pub body : List IRNode
  pub last : Ptr OperationKind
  pub ends : children s (BasicBlock block) ≡ body ++ Operation last ∷ []
  -- where the call was written
  pub place : Location
  pub called : location_of s call ≡ Some place
  -- what each node, value and block of the block's tree has become, and the call in place of which the copies stand
  pub copies : Copies
  pub images : Images
  pub mapped : HoldsCopies s (BasicBlock block) copies (for_call no_images place) images
  -- all that stands below the block but its last operation is copied
  pub tree : (n : IRNode) → IsInBody s t call block last copies images n →
      IsInlinedNode s t call block last copies images n
  -- the copies of the block's operations stand in place of the call
  pub here : (over : IRNode) (xs ys : List IRNode) → children s over ≡ xs ++ Operation call ∷ ys →
      children t over ≡ xs ++ map (node_copy copies) body ++ ys
  -- other operations hold what they held, but that the call's results were given what has come in their place
  pub ops : (p : Ptr OperationKind) → IsLive s (Operation p) → (p ≡ call → ⊥) →
      op_at t p ≡ option_map (with_operands_by (answered s t call block last copies images)) (op_at s p)
  pub blocks : (b : Ptr BlockKind) → IsLive s (BasicBlock b) → block_at t b ≡ block_at s b
  -- the call is gone, and what else was live is live, with the same children
  pub gone : is_live t (Operation call) ≡ false
  pub live : (n : IRNode) → IsLive s n → (n ≡ Operation call → ⊥) → IsLive t n
  pub children : (n : IRNode) → IsLive s n → (n ≡ Operation call → ⊥) → (parent_of s (Operation call) ≡ Some n → ⊥) →
      children t n ≡ children s n
  -- what is new is a copy, whose pointer was never given out before
  pub new : (n : IRNode) → IsLive t n → is_live s n ≡ false →
      (o : IRNode) × (IsInBody s t call block last copies images o × (node_copy copies o ≡ n))
  pub fresh : (n : IRNode) → IsLive t n → is_live s n ≡ false → given_out s n ≡ false
  pub given_out : (n : IRNode) → given_out s n ≡ true → given_out t n ≡ true
  pub types : t.types ≡ s.types
  pub limit : limit t ≡ limit s
