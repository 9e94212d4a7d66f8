-- A block in place of another one.
use Rattle.std.specs.Prelude.{◌≡◌, ◌++◌, ◌∷◌, List, Some, false}
use Rattle.plir_core.specs.declared.ptr.Ptr.{Ptr}
use Rattle.plir_core.specs.declared.ptr.Operation.{Operation as OperationKind}
use Rattle.plir_core.specs.declared.ptr.BasicBlock.{BasicBlock as BlockKind}
use Rattle.plir_core.specs.declared.ptr.IRNode.{IRNode}
use Rattle.plir_core.specs.declared.ptr.IRNode.TheVariants.{Operation, BasicBlock}
use Rattle.plir_core.specs.ContextView.{ContextView, IsLive, block_at, children, given_out, is_live, limit, op_at}
use Rattle.plir_core.specs.ContextView.{parent_of}

-- From s to t the block b is gone, and c, which stood alone, stands in its place, with its operations; nothing else has
-- changed.
pub record IsPutFor {K A T : Type 0} (s t : ContextView K A T) (b c : Ptr BlockKind) : Type 0 where
  pub gone : is_live t (BasicBlock b) ≡ false
  pub live : (n : IRNode) → (n ≡ BasicBlock b → ⊥) → is_live t n ≡ is_live s n
  pub here : (over : IRNode) (xs ys : List IRNode) → children s over ≡ xs ++ BasicBlock b ∷ ys →
      children t over ≡ xs ++ BasicBlock c ∷ ys
  pub body : children t (BasicBlock c) ≡ children s (BasicBlock b)
  pub children : (n : IRNode) → (n ≡ BasicBlock b → ⊥) → (n ≡ BasicBlock c → ⊥) →
      (parent_of s (BasicBlock b) ≡ Some n → ⊥) → children t n ≡ children s n
  pub ops : (p : Ptr OperationKind) → IsLive s (Operation p) → op_at t p ≡ op_at s p
  pub blocks : (x : Ptr BlockKind) → IsLive s (BasicBlock x) → (x ≡ b → ⊥) → block_at t x ≡ block_at s x
  pub given_out : (n : IRNode) → given_out t n ≡ given_out s n
  pub types : t.types ≡ s.types
  pub limit : limit t ≡ limit s
