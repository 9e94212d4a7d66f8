-- What is left where operands have become constants.
use Rattle.std.specs.Prelude.{◌≡◌, ℕ, Bool, true, false, List, [], ◌∷◌, ◌++◌, Option, Some, None, ◌⊎◌, slice_get}
use Rattle.std.specs.List.{filter}
use Rattle.plir_data.specs.Dictionary.{dict_put}
use Rattle.plir_data.specs.Keys.{value_key}
use Rattle.plir_data.specs.declared.location.Location.{Location}
use Rattle.plir_data.specs.declared.op_set.OpKind.TheVariants.{Constant}
use Rattle.plir_core.specs.declared.ptr.Ptr.{Ptr}
use Rattle.plir_core.specs.declared.ptr.Operation.{Operation as OperationKind}
use Rattle.plir_core.specs.declared.ptr.BasicBlock.{BasicBlock as BasicBlockKind}
use Rattle.plir_core.specs.declared.ptr.IRNode.{IRNode}
use Rattle.plir_core.specs.declared.ptr.IRNode.TheVariants.{Operation, BasicBlock}
use Rattle.plir_core.specs.declared.value.Value.{Value}
use Rattle.plir_core.specs.declared.value.DefiningEntity.TheVariants.{Op}
use Rattle.plir_core.specs.Contents.{OpView, op_view}
use Rattle.plir_core.specs.ContextView.{ContextView, IsLive, is_live, children, parent_of, op_at, block_at, operands_of}
use Rattle.plir_core.specs.ContextView.{type_of_value, given_out, limit, location_in, location_of}
use Rattle.plir_core.specs.ButOperands.{but_operands}
use Rattle.plir_store.specs.Members.{Has}
use Rattle.plir_folding.specs.Worth.{Integer, attr_of, constant_of, made_by, Evaluates}

-- two lists of values are as long, and R holds of those at the same indices
abbrev pub ArePaired : (Value → Value → Type 0) → List Value → List Value → Type 0
ArePaired R [] [] = Unit {0}
ArePaired R [] (w ∷ ws) = ⊥
ArePaired R (v ∷ vs) [] = ⊥
ArePaired R (v ∷ vs) (w ∷ ws) = R v w × ArePaired R vs ws

module _ {K A : Type 0} where
  -- what a constant of an integer holds that was made, with a location
  abbrev pub constant_view : Integer → Location → OpView K A
  constant_view n loc =
      record (op_view Constant (n.type ∷ []) [] [] (dict_put [] value_key (attr_of n))) { location = loc }

-- the first result of an operation
abbrev pub result_of : Ptr OperationKind → Value
result_of p = record { entity = Op p; index = 0 }

module _ {K A T : Type 0} where
  -- where the operation was written whose first result a value is, if it is one
  abbrev pub written_at : ContextView K A T → Value → Option Location
  written_at s v = location_in (made_by s v)

  -- From s to t an operation is new, its pointer was never given out before, and it is a constant of the integer n.
  pub record IsNewConstantOf (s t : ContextView K A T) (p : Ptr OperationKind) (n : Integer) : Type 0 where
    pub live : IsLive t (Operation p)
    pub new : is_live s (Operation p) ≡ false
    pub fresh : given_out s (Operation p) ≡ false
    pub location : Location
    pub holds : op_at t p ≡ Some (constant_view n location)

  -- From s to t an operation has come for one that uses it: its first result is an operand of an operation that was
  -- there, and no other operand; and it stands before this one in its block, with nothing between them but what has
  -- come too.
  pub record IsForUser (s t : ContextView K A T) (p : Ptr OperationKind) : Type 0 where
    pub user : Ptr OperationKind
    pub index : ℕ
    pub block : Ptr BasicBlockKind
    pub front : List IRNode
    pub between : List IRNode
    pub back : List IRNode
    pub old : IsLive s (Operation user)
    pub over : IsLive s (BasicBlock block)
    pub used : slice_get (operands_of t user) index ≡ Some (result_of p)
    pub alone : (q : Ptr OperationKind) (i : ℕ) → IsLive t (Operation q) →
        slice_get (operands_of t q) i ≡ Some (result_of p) → (q ≡ user) × (i ≡ index)
    pub stands : children t (BasicBlock block) ≡ front ++ Operation p ∷ (between ++ Operation user ∷ back)
    pub among : (n : IRNode) → Has between n → is_live s n ≡ false

  module _ (fold : K → Integer → Integer → Option Integer) where
    -- From s to t a value v, which was no constant, has another one in its place: a new constant of what v evaluates
    -- to, which is of v's type, and has the location of the operation that made v.
    pub record IsReplaced (s t : ContextView K A T) (v w : Value) : Type 0 where
      pub unknown : constant_of s v ≡ None
      pub constant : Ptr OperationKind
      pub integer : Integer
      pub result : w ≡ result_of constant
      pub made : IsNewConstantOf s t constant integer
      pub worth : Evaluates fold s v integer
      pub typed : type_of_value t w ≡ type_of_value s v
      pub written : location_of t constant ≡ written_at s v

    -- in the place of a value is that value, or a new constant of what it evaluates to
    abbrev pub IsSameOrReplaced : ContextView K A T → ContextView K A T → Value → Value → Type 0
    IsSameOrReplaced s t v w = (w ≡ v) ⊎ IsReplaced s t v w

    -- From s to t operands that were no constants were replaced by new constants of what they evaluate to, and nothing
    -- else has changed: each node is there, where it stood, in its order, and holds what it held but for these
    -- operands. What is new are constants, each for one that uses it alone: so there is none without a use, one for
    -- each operand that changed, and each comes before its user.
    pub record IsFolded (s t : ContextView K A T) : Type 0 where
      pub live : (n : IRNode) → IsLive s n → IsLive t n
      pub new : (n : IRNode) → IsLive t n → is_live s n ≡ false →
          (p : Ptr OperationKind) × ((m : Integer) × ((n ≡ Operation p) × IsNewConstantOf s t p m))
      pub for_user : (p : Ptr OperationKind) → IsLive t (Operation p) → is_live s (Operation p) ≡ false →
          IsForUser s t p
      pub children : (n : IRNode) → IsLive s n → filter (is_live s) (children t n) ≡ children s n
      pub parents : (n : IRNode) → IsLive s n → parent_of t n ≡ parent_of s n
      pub ops : (p : Ptr OperationKind) → IsLive s (Operation p) →
          but_operands (op_at t p) ≡ but_operands (op_at s p)
      pub operands : (p : Ptr OperationKind) → IsLive s (Operation p) →
          ArePaired (IsSameOrReplaced s t) (operands_of s p) (operands_of t p)
      pub blocks : (b : Ptr BasicBlockKind) → IsLive s (BasicBlock b) → block_at t b ≡ block_at s b
      pub types : t.types ≡ s.types
      -- as many nodes may be live, and what was given out counts as given out
      pub limit : limit t ≡ limit s
      pub given : (n : IRNode) → given_out s n ≡ true → given_out t n ≡ true

  -- A flag that is clear tells that nothing has changed; one that is newly set, that there is a new constant.
  pub record IsFlagged (s : ContextView K A T) (flag flag' : Bool) (t : ContextView K A T) : Type 0 where
    pub clear : flag' ≡ false → (flag ≡ false) × (t ≡ s)
    pub set : flag' ≡ true → (flag ≡ true) ⊎
        ((p : Ptr OperationKind) × ((n : Integer) × IsNewConstantOf s t p n))
