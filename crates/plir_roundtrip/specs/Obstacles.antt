-- What stands against reading an operation of any kind back from its text, and what its test tells on the way.
use Rattle.std.specs.Prelude.{◌≡◌, ℕ, ◌≤◌, ◌<◌, ◌^◌, List, Bool, true, if◌then◌else◌, Option, Some, None, length, slice_get}
use Rattle.std.specs.Prelude.{All}
use Rattle.plir_data.specs.declared.op_set.OpKind.{OpKind}
use Rattle.plir_data.specs.declared.op_set.OpKind.TheVariants.{Module, Func, Constant, ForwardRef, Own}
use Rattle.plir_data.specs.declared.op_set.OpSet as op_set
use Rattle.plir_core.specs.declared.ptr.Ptr.{Ptr}
use Rattle.plir_core.specs.declared.ptr.Operation.{Operation as OperationKind}
use Rattle.plir_core.specs.declared.ptr.BasicBlock.{BasicBlock as BlockKind}
use Rattle.plir_core.specs.declared.ptr.IRNode.{IRNode}
use Rattle.plir_core.specs.declared.ptr.IRNode.TheVariants.{Operation, Region, BasicBlock}
use Rattle.plir_core.specs.declared.value.DefiningEntity.TheVariants.{Op, Block}
use Rattle.plir_core.specs.declared.value.Value.{Value}
use Rattle.plir_core.specs.ContextView.{ContextView, children, kind_of, operands_of, successors_of, types_from}
use Rattle.plir_walk.specs.Tree.{IsProperlyUnder, IsUnder, NodeBefore}
use Rattle.plir_walk.specs.declared.config.TheConstants.{WALKCONFIG_PREORDER_FORWARD as pre_forward}
use Rattle.plir_read_ir.specs.IrGrammar.{own_kind}
use Rattle.plir_read_ir.specs.IrTerms.{op_levels}
use Rattle.plir_roundtrip.specs.Readable.{AreValuesReadable, IsBlockReadable}
use Rattle.plir_roundtrip.specs.IrReadable.{AreIrReadable, HasReadableText, IsId, IsIrOpReadable}
use Rattle.plir_roundtrip.specs.IrWritten.{ir_term_of}
use Rattle.plir_roundtrip.specs.UsesWithin.{IsBeside, IsWithinReach, StandsAround, is_kind_isolated}
use Rattle.plir_roundtrip.specs.declared.obstacle.Obstacle.{Obstacle}
use Rattle.plir_roundtrip.specs.declared.obstacle.Obstacle.TheVariants.{Kind, Types, Content, Levels, Operand, Successor}
use Rattle.plir_roundtrip.specs.declared.reach.Body.{Body}
use Rattle.plir_roundtrip.specs.declared.reach.Body.TheVariants.{Whole, Of, Outside}

-- the operation at a node, if there is one and it is isolated
abbrev pub as_isolated : {K A T : Type 0} → (isolated : K → Bool) → ContextView K A T → Option IRNode →
    Option (Ptr OperationKind)
as_isolated isolated s (Some (Operation p)) = if is_kind_isolated isolated (kind_of s p) then Some p else None
as_isolated isolated s (Some (Region r)) = None
as_isolated isolated s (Some (BasicBlock b)) = None
as_isolated isolated s None = None

module _ {K A T : Type 0} (isolated : K → Bool) (s : ContextView K A T) (root : IRNode) where
  -- An isolated operation is the innermost one around a node, and the climb from the node has not come to the root
  -- before.
  pub record IsFirstAround (a : Ptr OperationKind) (n : IRNode) : Type 0 where
    pub alone : is_kind_isolated isolated (kind_of s a) ≡ true
    pub below : IsProperlyUnder (children s) (Operation a) n
    pub innermost : (b : Ptr OperationKind) → is_kind_isolated isolated (kind_of s b) ≡ true →
        IsProperlyUnder (children s) (Operation b) n → IsUnder (children s) (Operation b) (Operation a)
    pub within : IsUnder (children s) root n → IsUnder (children s) root (Operation a)

  -- what a climb from a node tells
  abbrev pub IsBodyTold : IRNode → Body → Type 0
  IsBodyTold n Whole = IsUnder (children s) root n × ((a : Ptr OperationKind) → StandsAround isolated s root a n → ⊥)
  IsBodyTold n (Of a) = IsFirstAround a n
  IsBodyTold n Outside = IsUnder (children s) root n → ⊥

  -- the operand of an operation at a place is the first that the operation cannot name
  pub record IsFarOperand (p : Ptr OperationKind) (i : ℕ) : Type 0 where
    pub value : Value
    pub there : slice_get (operands_of s p) i ≡ Some value
    pub far : IsWithinReach isolated s root p value → ⊥
    pub others : (j : ℕ) (v : Value) → j < i → slice_get (operands_of s p) j ≡ Some v → IsWithinReach isolated s root p v

-- the same of the successor at a place
pub record IsFarSuccessor {K A T : Type 0} (s : ContextView K A T) (root : IRNode) (p : Ptr OperationKind) (i : ℕ) :
    Type 0 where
  pub block : Ptr BlockKind
  pub there : slice_get (successors_of s p) i ≡ Some block
  pub far : IsBeside s root p block → ⊥
  pub others : (j : ℕ) (b : Ptr BlockKind) → j < i → slice_get (successors_of s p) j ≡ Some b → IsBeside s root p b

-- what an operation of the tree uses it can name; nothing is asked of a region and of a block
abbrev pub IsUsing : {K A T : Type 0} → (isolated : K → Bool) → ContextView K A T → (root n : IRNode) → Type 0
IsUsing isolated s root (Operation p) = All (IsWithinReach isolated s root p) (operands_of s p) ×
    All (IsBeside s root p) (successors_of s p)
IsUsing isolated s root (Region r) = Unit {0}
IsUsing isolated s root (BasicBlock b) = Unit {0}

-- Of the nodes of the tree, those that do not come behind n in its order have this, n aside.
abbrev pub HoldsBefore : {K A T : Type 0} → ContextView K A T → (root n : IRNode) → (IRNode → Type 0) → Type 0
HoldsBefore s root n P = (m : IRNode) → IsUnder (children s) root m →
    (NodeBefore pre_forward (children s) root n m → ⊥) → (m ≡ n → ⊥) → P m

-- An operand of the operation at a node is the first that this cannot name; or it can name all operands, and a successor
-- is the first that it cannot name.
abbrev pub IsFarAt : {K A T : Type 0} → (isolated : K → Bool) → ContextView K A T → (root n : IRNode) → Obstacle → Type 0
IsFarAt isolated s root n (Kind m) = ⊥
IsFarAt isolated s root n (Types m) = ⊥
IsFarAt isolated s root n (Content m) = ⊥
IsFarAt isolated s root n Levels = ⊥
IsFarAt isolated s root n (Operand p i) = (n ≡ Operation p) × IsFarOperand isolated s root p i
IsFarAt isolated s root n (Successor p i) = (n ≡ Operation p) ×
    All (IsWithinReach isolated s root p) (operands_of s p) × IsFarSuccessor s root p i

-- so it is at the first node of the tree where it is
pub record IsFarUse {K A T : Type 0} (isolated : K → Bool) (s : ContextView K A T) (root : IRNode) (o : Obstacle) :
    Type 0 where
  pub node : IRNode
  pub within : IsUnder (children s) root node
  pub far : IsFarAt isolated s root node o
  pub others : HoldsBefore s root node (IsUsing isolated s root)

-- two answers of climbs name one body of the tree
abbrev pub IsSameBody : Body → Body → Type 0
IsSameBody Whole Whole = Unit {0}
IsSameBody Whole (Of b) = ⊥
IsSameBody Whole Outside = ⊥
IsSameBody (Of a) Whole = ⊥
IsSameBody (Of a) (Of b) = a ≡ b
IsSameBody (Of a) Outside = ⊥
IsSameBody Outside b = ⊥

-- `find` says which kind of the set an id names
module _ {D K A T E : Type 0} (o : op_set.Ghosts D K A T E) (find : List ℕ → Option K) (s : ContextView K A T) where
  -- a node that can be read, whatever stands below it
  abbrev pub IsIrNodeReadable : IRNode → Type 0
  IsIrNodeReadable (Operation p) = IsIrOpReadable o find s p
  IsIrNodeReadable (Region r) = Unit {0}
  IsIrNodeReadable (BasicBlock b) = IsBlockReadable s b

  -- a node has fewer than 2 ^ 64 results or arguments
  abbrev pub IsNodeCounted : IRNode → Type 0
  IsNodeCounted (Operation p) = length (types_from s (Op p)) < 2 ^ 64
  IsNodeCounted (Region r) = Unit {0}
  IsNodeCounted (BasicBlock b) = length (types_from s (Block b)) < 2 ^ 64

  -- texts name the kind of an operation
  abbrev pub IsKindNamed : Option (OpKind K) → Type 0
  IsKindNamed (Some Module) = Unit {0}
  IsKindNamed (Some Func) = Unit {0}
  IsKindNamed (Some Constant) = Unit {0}
  IsKindNamed (Some (Own k)) = IsId (o.kind_id k) × (own_kind find (o.kind_id k) ≡ Some k)
  IsKindNamed (Some ForwardRef) = ⊥
  IsKindNamed None = ⊥

  -- the same of the operation at a node; nothing is asked of a region and of a block
  abbrev pub IsNodeNamed : IRNode → Type 0
  IsNodeNamed (Operation p) = IsKindNamed (kind_of s p)
  IsNodeNamed (Region r) = Unit {0}
  IsNodeNamed (BasicBlock b) = Unit {0}

  -- the results or arguments of a node have builtin types, and names that are identifiers, if any
  abbrev pub AreTypesReadable : IRNode → Type 0
  AreTypesReadable (Operation p) = AreValuesReadable s (Op p)
  AreTypesReadable (Region r) = Unit {0}
  AreTypesReadable (BasicBlock b) = AreValuesReadable s (Block b)

  -- Why a node cannot be read: no text names its kind; else a result or an argument cannot be read; else what it holds
  -- cannot.
  abbrev pub IsUnreadAs : IRNode → Obstacle → Type 0
  IsUnreadAs n (Kind m) = (m ≡ n) × (IsNodeNamed n → ⊥)
  IsUnreadAs n (Types m) = (m ≡ n) × IsNodeNamed n × (AreTypesReadable n → ⊥)
  IsUnreadAs n (Content m) = (m ≡ n) × IsNodeNamed n × AreTypesReadable n × (IsIrNodeReadable n → ⊥)
  IsUnreadAs n Levels = ⊥
  IsUnreadAs n (Operand p i) = ⊥
  IsUnreadAs n (Successor p i) = ⊥

  module _ (p : Ptr OperationKind) where
    -- a node is the first at or under an operation that cannot be read
    pub record IsFirstUnread (n : IRNode) : Type 0 where
      pub within : IsUnder (children s) (Operation p) n
      pub unread : IsIrNodeReadable n → ⊥
      pub others : HoldsBefore s (Operation p) n IsIrNodeReadable

    -- What stands against reading an operation back from its text: the first node at or under it that cannot be read,
    -- and why; or all can be, and there are too many levels; or its text stands for it, and the first use that means
    -- nothing there.
    module _ (isolated : K → Bool) where
      abbrev pub IsObstacle : Obstacle → Type 0
      IsObstacle (Kind n) = IsFirstUnread n × IsUnreadAs n (Kind n)
      IsObstacle (Types n) = IsFirstUnread n × IsUnreadAs n (Types n)
      IsObstacle (Content n) = IsFirstUnread n × IsUnreadAs n (Content n)
      IsObstacle Levels = AreIrReadable o find s (Operation p) × (op_levels (ir_term_of o s p) ≤ 200 → ⊥)
      IsObstacle (Operand q i) = HasReadableText o find s p × IsFarUse isolated s (Operation p) (Operand q i)
      IsObstacle (Successor q i) = HasReadableText o find s p × IsFarUse isolated s (Operation p) (Successor q i)
