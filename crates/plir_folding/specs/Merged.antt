-- What is left where constants of the same integer have been merged.
use Rattle.std.specs.Prelude.{◌≡◌, List, ◌∷◌, ◌++◌, Option, Some, None, ◌⊎◌}
use Rattle.plir_store.specs.Members.{Has}
use Rattle.plir_core.specs.declared.ptr.Ptr.{Ptr}
use Rattle.plir_core.specs.declared.ptr.Operation.{Operation as OperationKind}
use Rattle.plir_core.specs.declared.ptr.BasicBlock.{BasicBlock as BasicBlockKind}
use Rattle.plir_core.specs.declared.ptr.IRNode.{IRNode}
use Rattle.plir_core.specs.declared.ptr.IRNode.TheVariants.{Operation, Region, BasicBlock}
use Rattle.plir_core.specs.declared.value.Value.{Value}
use Rattle.plir_core.specs.ButOperands.{but_operands}
use Rattle.plir_core.specs.Contents.{OpView}
use Rattle.plir_core.specs.Held.{KeepsNodes}
use Rattle.plir_core.specs.Forest.{look, IsBelow}
use Rattle.plir_core.specs.ContextView.{ContextView, IsLive, children, op_at, operands_of}
use Rattle.plir_core.specs.ValueUses.{HasUses}
use Rattle.plir_folding.specs.Worth.{Integer, constant_by, of_type}
use Rattle.plir_folding.specs.Folded.{ArePaired, result_of}

module _ {K A : Type 0} where
  -- the integer that an operation is a constant of, if it has one result, of that integer's type
  abbrev pub typed_constant : Option (OpView K A) → Option Integer
  typed_constant None = None
  typed_constant (Some o) = of_type o.result_types (constant_by o.kind o.attributes)

module _ {K A T : Type 0} where
  -- the same of a node; a region or a block is no constant
  abbrev pub integer_at : ContextView K A T → IRNode → Option Integer
  integer_at s (Operation p) = typed_constant (op_at s p)
  integer_at s (Region p) = None
  integer_at s (BasicBlock p) = None

  -- Among nodes an operation is the first one that is a constant of an integer: no node before it is one.
  pub record IsFirstAmong (s : ContextView K A T) (ns : List IRNode) (n : Integer) (p : Ptr OperationKind) : Type 0
    where
      pub before : List IRNode
      pub behind : List IRNode
      pub stands : ns ≡ before ++ Operation p ∷ behind
      pub worth : integer_at s (Operation p) ≡ Some n
      pub none : (x : IRNode) → Has before x → integer_at s x ≡ Some n → ⊥

  -- A value is the result of a constant among nodes, and another one is that of the first constant among them of the
  -- same integer.
  pub record IsOfFirst (s : ContextView K A T) (ns : List IRNode) (v w : Value) : Type 0 where
    pub constant : Ptr OperationKind
    pub first : Ptr OperationKind
    pub integer : Integer
    pub value : v ≡ result_of constant
    pub result : w ≡ result_of first
    pub among : Has ns (Operation constant)
    pub worth : integer_at s (Operation constant) ≡ Some integer
    pub begins : IsFirstAmong s ns integer first

  -- the same among the operations of a block below a node
  abbrev pub IsOfFirstBelow : ContextView K A T → IRNode → Value → Value → Type 0
  IsOfFirstBelow s r v w = (b : Ptr BasicBlockKind) ×
      (IsBelow (look s) r (BasicBlock b) × IsOfFirst s (children s (BasicBlock b)) v w)

  -- of the constants of one integer in a block below r none is used but the first one
  abbrev pub AreFirstAlone : ContextView K A T → IRNode → Type 0
  AreFirstAlone s r = (v w : Value) → HasUses s v → IsOfFirstBelow s r v w → w ≡ v

  -- What becomes of an operand v: where it is the result of a constant of a block below r, that of the first constant
  -- there of the same integer; any other value stays.
  abbrev pub IsMergedInto : ContextView K A T → IRNode → Value → Value → Type 0
  IsMergedInto s r v w = IsOfFirstBelow s r v w ⊎ ((w ≡ v) × ((x : Value) → IsOfFirstBelow s r v x → x ≡ v))

  -- From s to t each operand has become what becomes of it, and nothing else has changed: the same nodes stand where
  -- they stood, and hold what they held but for operands.
  pub record IsMerged (s : ContextView K A T) (r : IRNode) (t : ContextView K A T) : Type 0 where
    pub keeps : KeepsNodes s t
    pub ops : (p : Ptr OperationKind) → but_operands (op_at t p) ≡ but_operands (op_at s p)
    pub operands : (p : Ptr OperationKind) → IsLive s (Operation p) →
        ArePaired (IsMergedInto s r) (operands_of s p) (operands_of t p)
    pub blocks : t.nodes.blocks ≡ s.nodes.blocks
    pub regions : t.nodes.regions ≡ s.nodes.regions
    -- the same slots of operations are free, in their order
    pub free : t.nodes.ops.free ≡ s.nodes.ops.free
