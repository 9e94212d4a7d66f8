-- A block that stands alone is put in place of a call.
use Rattle.std.specs.Prelude.{◌≡◌, IsSome, List, [], ◌∷◌, ◌++◌, None, Some, false, length, map, option_map}
use Rattle.plir_store.specs.Members.{Has}
use Rattle.plir_core.specs.declared.ptr.Ptr.{Ptr}
use Rattle.plir_core.specs.declared.ptr.Operation.{Operation as OperationKind}
use Rattle.plir_core.specs.declared.ptr.BasicBlock.{BasicBlock as BlockKind}
use Rattle.plir_core.specs.declared.ptr.IRNode.{IRNode}
use Rattle.plir_core.specs.declared.ptr.IRNode.TheVariants.{Operation, BasicBlock}
use Rattle.plir_core.specs.declared.value.Value.{Value}
use Rattle.plir_core.specs.declared.value.DefiningEntity.TheVariants.{Op, Block}
use Rattle.plir_core.specs.ContextView.{ContextView, IsLive, IsAncestor, arg_types_of, block_at, children, given_out}
use Rattle.plir_core.specs.ContextView.{is_live, limit, op_at, operands_of, parent_of, result_types_of, successors_of}
use Rattle.plir_inline.specs.Given.{NoneFrom, given, with_operands_by}

-- A block stands alone and ends with an operation that hands back as many values as a call has results; the call has as
-- many operands as the block has arguments.
pub record CanPut {K A T : Type 0} (s : ContextView K A T) (call : Ptr OperationKind)
    (block : Ptr BlockKind) : Type 0 where
  pub call_live : IsLive s (Operation call)
  pub block_live : IsLive s (BasicBlock block)
  pub in_block : IsSome (parent_of s (Operation call))
  pub leaf : children s (Operation call) ≡ []
  pub alone : parent_of s (BasicBlock block) ≡ None
  pub apart : IsAncestor s (BasicBlock block) (Operation call) → ⊥
  pub body : List IRNode
  pub last : Ptr OperationKind
  pub ends : children s (BasicBlock block) ≡ body ++ Operation last ∷ []
  pub last_leaf : children s (Operation last) ≡ []
  pub last_bare : result_types_of s last ≡ []
  pub arguments : length (operands_of s call) ≡ length (arg_types_of s block)
  pub results : length (operands_of s last) ≡ length (result_types_of s call)
  pub none_own : NoneFrom (Op call) (operands_of s call)
  pub none_inner : NoneFrom (Block block) (operands_of s call)
  pub none_back : NoneFrom (Op call) (operands_of s last)
  pub no_branch : (p : Ptr OperationKind) → IsLive s (Operation p) → Has (successors_of s p) block → ⊥

module _ {K A T : Type 0} (s : ContextView K A T) (call : Ptr OperationKind) (block : Ptr BlockKind)
    (last : Ptr OperationKind) where
  -- what stands in place of a value once the block's arguments are given the call's operands
  abbrev pub inside : Value → Value
  inside v = given (Block block) (operands_of s call) v

  -- and then the call's results what the block's last operation hands back
  abbrev pub put : Value → Value
  put v = given (Op call) (map inside (operands_of s last)) (inside v)

  -- it is none of the nodes that go
  pub record Stays (n : IRNode) : Type 0 where
    pub not_call : n ≡ Operation call → ⊥
    pub not_block : n ≡ BasicBlock block → ⊥
    pub not_last : n ≡ Operation last → ⊥

  -- From s to t the operations of the block but for the last one have come in place of the call, the call's operands in
  -- place of the block's arguments, and what the last operation hands back in place of the call's results. The call,
  -- the block and the last operation are gone, and nothing else has changed.
  pub record IsPut (t : ContextView K A T) : Type 0 where
    pub ops : (p : Ptr OperationKind) → IsLive s (Operation p) → Stays (Operation p) →
        op_at t p ≡ option_map (with_operands_by put) (op_at s p)
    pub blocks : (b : Ptr BlockKind) → IsLive s (BasicBlock b) → Stays (BasicBlock b) → block_at t b ≡ block_at s b
    pub call_gone : is_live t (Operation call) ≡ false
    pub block_gone : is_live t (BasicBlock block) ≡ false
    pub last_gone : is_live t (Operation last) ≡ false
    pub live : (n : IRNode) → Stays n → is_live t n ≡ is_live s n
    pub here : (over : IRNode) (xs ys zs : List IRNode) → children s over ≡ xs ++ Operation call ∷ ys →
        children s (BasicBlock block) ≡ zs ++ Operation last ∷ [] → children t over ≡ xs ++ zs ++ ys
    pub children : (n : IRNode) → Stays n → (parent_of s (Operation call) ≡ Some n → ⊥) → children t n ≡ children s n
    pub given_out : (n : IRNode) → given_out t n ≡ given_out s n
    pub types : t.types ≡ s.types
    pub limit : limit t ≡ limit s
