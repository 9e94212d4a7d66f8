-- What is made and then put before a mark, and how such changes compose: nothing that was there is touched.
use Rattle.std.specs.Prelude.{◌≡◌, ℕ, false, List, ◌∷◌, ◌++◌, Some}
use Rattle.plir_core.specs.declared.ptr.Ptr.{Ptr}
use Rattle.plir_core.specs.declared.ptr.Operation.{Operation as OperationKind}
use Rattle.plir_core.specs.declared.ptr.IRNode.{IRNode}
use Rattle.plir_core.specs.declared.value.Value.{Value}
use Rattle.plir_core.specs.Made.{KeepsLive, IsMade}
use Rattle.plir_core.specs.Placed.{IsPlaced, IsPlacedBefore}
use Rattle.plir_core.specs.Forest.{look, IsForest}
use Rattle.plir_core.specs.ContextView.{ContextView, IsLive, IsValueLive, is_live, given_out, children, parent_of}
use Rattle.plir_core.specs.ContextView.{op_at}
use Rattle.plir_core.specs.ContextView.{type_of_value}

module _ {K A T : Type 0} where
  -- The tree under x, which was made from s to t, has come right before the mark, under `over`, from t to u. The mark
  -- is live and where it was; so is all that was live, and it holds what it held.
  pub record IsNewBefore (s t u : ContextView K A T) (x mark over : IRNode) : Type 0 where
    pub keeps : KeepsLive s.nodes u.nodes
    pub mark_live : IsLive u mark
    pub mark_here : parent_of u mark ≡ Some over
    -- x was not live, is live, stands under `over`, and holds what it was made with
    pub older : (n : IRNode) → IsLive s n → n ≡ x → ⊥
    pub root : IsLive u x
    pub here : parent_of u x ≡ Some over
    pub held : (p : Ptr OperationKind) → op_at u p ≡ op_at t p
    -- it stands right before the mark, among the children that `over` had
    pub place : (xs ys : List IRNode) → children s over ≡ xs ++ mark ∷ ys
        → children u over ≡ xs ++ x ∷ mark ∷ ys
    pub children : (n : IRNode) → IsLive s n → (n ≡ over → ⊥) → children u n ≡ children s n
    -- that is one placing
    pub placed : (ks : List IRNode) × IsPlaced t.nodes u.nodes x over ks
    -- what has become live was never given out before
    pub fresh : (n : IRNode) → IsLive u n → is_live s n ≡ false → given_out s n ≡ false

-- How changes that touch nothing compose, and which they are.
pub record Additions (K A T : Type 0) : Type 0 where
  -- nothing done, and one after another
  pub none : (s : ContextView K A T) → KeepsLive s.nodes s.nodes
  pub both : (s t u : ContextView K A T) → KeepsLive s.nodes t.nodes → KeepsLive t.nodes u.nodes →
      KeepsLive s.nodes u.nodes
  -- a value that was live is live, and has the type that it had
  pub value : (s t : ContextView K A T) (v : Value) → KeepsLive s.nodes t.nodes → IsValueLive s v → IsValueLive t v
  pub value_type : (s t : ContextView K A T) (v : Value) → KeepsLive s.nodes t.nodes → IsValueLive s v →
      type_of_value t v ≡ type_of_value s v
  -- a tree is made, and its root x is put right before a mark
  pub before : (s t u : ContextView K A T) (x mark over : IRNode) → IsForest (look s) → parent_of s mark ≡ Some over →
      IsMade s.nodes t.nodes x → IsPlacedBefore t.nodes u.nodes x mark → IsNewBefore s t u x mark over
