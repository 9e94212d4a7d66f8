-- What is left where operands have become the values that they stand for.
use Rattle.std.specs.Prelude.{◌≡◌, ◌≢◌, ℕ, zero, suc, Bool, true, List, [], ◌∷◌, ◌⊎◌, Some, length}
use Rattle.std.specs.declared.ops.ControlFlow.{ControlFlow}
use Rattle.std.specs.declared.ops.ControlFlow.TheVariants.{Continue, Break}
use Rattle.plir_walk.specs.declared.interruptible.WalkContinue.{WalkContinue}
use Rattle.plir_walk.specs.declared.interruptible.WalkContinue.TheVariants.{Advance, Skip}
use Rattle.plir_data.specs.declared.op_set.OpKind.TheVariants.{Own}
use Rattle.plir_core.specs.declared.ptr.Ptr.{Ptr}
use Rattle.plir_core.specs.declared.ptr.Operation.{Operation as OperationKind}
use Rattle.plir_core.specs.declared.ptr.IRNode.{IRNode}
use Rattle.plir_core.specs.declared.value.Value.{Value}
use Rattle.plir_core.specs.ButOperands.{but_operands}
use Rattle.plir_core.specs.Contents.{OpView}
use Rattle.plir_core.specs.Held.{KeepsNodes}
use Rattle.plir_core.specs.Forest.{look}
use Rattle.plir_core.specs.ContextView.{ContextView, op_at, operands_of, type_of_value}
use Rattle.plir_core.specs.ValueUses.{HasUses}
use Rattle.plir_core.specs.WellFormed.{IsWellFormed}
use Rattle.plir_walk.specs.Lawful.{Lawful}
use Rattle.plir_folding.specs.declared.identity_set.Side.{Side}
use Rattle.plir_folding.specs.Worth.{Integer, constant_of, made_by}
use Rattle.plir_folding.specs.Folded.{ArePaired}
use Rattle.plir_folding.specs.Identities.{operand_at, other_at, IsLeft, IsPassed}

module _ {K A T : Type 0} (holds : K → Side → Integer → Bool) where
  -- A value v is the result of an operation of an own kind, which has two operands and that one result; what is at one
  -- side leads to a constant at which the identity of the kind holds, and the other one leads to w.
  pub record IsHandedOn (leads : Value → Value → Type 0) (s : ContextView K A T) (v w : Value) : Type 0 where
    pub op : OpView K A
    pub made : made_by s v ≡ Some op
    pub own : K
    pub kind : op.kind ≡ Own own
    pub left : Value
    pub right : Value
    pub operands : op.operands ≡ left ∷ right ∷ []
    pub alone : length op.result_types ≡ 1
    pub side : Side
    pub constant : Value
    pub integer : Integer
    pub known : constant_of s constant ≡ Some integer
    pub identity : holds own side integer ≡ true
    pub at_side : leads (operand_at side left right) constant
    pub rest : leads (other_at side left right) w

  -- a value leads to another one, as one sees who looks at d operations, one above the other, at most: it is that
  -- value, or it is handed on
  abbrev pub Leads : ℕ → ContextView K A T → Value → Value → Type 0
  Leads zero s v w = w ≡ v
  Leads (suc d) s v w = (w ≡ v) ⊎ IsHandedOn (Leads d s) s v w

  -- The identities of operations, those that there are or come to be once their operands are replaced, say that v is
  -- the value w; and w is of v's type.
  pub record IsSameAs (s : ContextView K A T) (v w : Value) : Type 0 where
    pub depth : ℕ
    pub leads : Leads depth s v w
    pub typed : type_of_value s w ≡ type_of_value s v

  -- From s to t operands were replaced by values that they are said to be, and nothing else has changed: the same nodes
  -- stand where they stood, and hold what they held but for these operands. No value is used that was not used before.
  pub record IsPassedOn (s t : ContextView K A T) : Type 0 where
    pub keeps : KeepsNodes s t
    pub ops : (p : Ptr OperationKind) → but_operands (op_at t p) ≡ but_operands (op_at s p)
    pub operands : (p : Ptr OperationKind) → ArePaired (IsSameAs s) (operands_of s p) (operands_of t p)
    pub used : (v : Value) → HasUses t v → HasUses s v
    pub blocks : t.nodes.blocks ≡ s.nodes.blocks
    pub regions : t.nodes.regions ≡ s.nodes.regions
    -- the same slots of operations are free, in their order
    pub free : t.nodes.ops.free ≡ s.nodes.ops.free

  -- The same, by a change that a call at the node n may make. `own_handles` gives the type handles of the user's own
  -- attributes.
  pub record IsPassedBelow (own_handles : A → List ℕ) (s : ContextView K A T) (n : IRNode)
      (t : ContextView K A T) : Type 0 where
    pub passed : IsPassedOn s t
    pub lawful : Lawful (look s) n (look t)
    pub whole : IsWellFormed own_handles t

  -- What the call of a walk at an operation answers: it goes on at the root r, and where nothing is left to be done,
  -- and breaks with the operation where something is.
  abbrev pub IsLookedAt : ContextView K A T → Ptr OperationKind → Ptr OperationKind →
      ControlFlow (Ptr OperationKind) WalkContinue → Type 0
  IsLookedAt s r p (Continue Advance) = (p ≡ r) ⊎ IsPassed holds s p
  IsLookedAt s r p (Continue Skip) = ⊥
  IsLookedAt s r p (Break q) = (q ≡ p) × ((p ≢ r) × ((w : Value) × IsLeft holds s p w))
