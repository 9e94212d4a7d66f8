-- A node without children is gone.
use Rattle.std.specs.Prelude.{◌≡◌, ◌∷◌, ◌++◌, List, Some, false}
use Rattle.plir_core.specs.declared.ptr.Ptr.{Ptr}
use Rattle.plir_core.specs.declared.ptr.Operation.{Operation as OperationKind}
use Rattle.plir_core.specs.declared.ptr.BasicBlock.{BasicBlock as BlockKind}
use Rattle.plir_core.specs.declared.ptr.IRNode.{IRNode}
use Rattle.plir_core.specs.declared.ptr.IRNode.TheVariants.{Operation, BasicBlock}
use Rattle.plir_core.specs.ContextView.{ContextView, IsLive, block_at, children, given_out, is_live, limit, op_at}
use Rattle.plir_core.specs.ContextView.{parent_of}

-- From s to t the node n, which had no children, is gone, and nothing else has changed.
pub record IsTaken {K A T : Type 0} (s t : ContextView K A T) (n : IRNode) : Type 0 where
  pub gone : is_live t n ≡ false
  pub live : (m : IRNode) → (m ≡ n → ⊥) → is_live t m ≡ is_live s m
  pub ops : (p : Ptr OperationKind) → IsLive t (Operation p) → op_at t p ≡ op_at s p
  pub blocks : (b : Ptr BlockKind) → IsLive t (BasicBlock b) → block_at t b ≡ block_at s b
  pub parents : (m : IRNode) → (m ≡ n → ⊥) → parent_of t m ≡ parent_of s m
  pub here : (over : IRNode) (xs ys : List IRNode) → children s over ≡ xs ++ n ∷ ys → children t over ≡ xs ++ ys
  pub children : (m : IRNode) → (m ≡ n → ⊥) → (parent_of s n ≡ Some m → ⊥) → children t m ≡ children s m
  pub given_out : (m : IRNode) → given_out t m ≡ given_out s m
  pub types : t.types ≡ s.types
  pub limit : limit t ≡ limit s
