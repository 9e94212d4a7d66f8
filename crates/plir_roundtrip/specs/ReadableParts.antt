-- What is asked of the parts of an operation that can be read back, and of each node in turn.
use Rattle.std.specs.Prelude.{◌≡◌, ◌⊎◌, ℕ, Bool, true, false, List, [], ◌∷◌, Some, slice_get}
use Rattle.std.specs.declared.ops.ControlFlow.{ControlFlow}
use Rattle.std.specs.declared.ops.ControlFlow.TheVariants.{Continue, Break}
use Rattle.plir_data.specs.AttrView.{AttrView}
use Rattle.plir_data.specs.TypeTree.{tree_of}
use Rattle.plir_data.specs.Keys.{names_key, value_key}
use Rattle.plir_core.specs.declared.ptr.Ptr.{Ptr}
use Rattle.plir_core.specs.declared.ptr.Operation.{Operation as OperationKind}
use Rattle.plir_core.specs.declared.ptr.BasicBlock.{BasicBlock as BlockKind}
use Rattle.plir_core.specs.declared.ptr.IRNode.{IRNode}
use Rattle.plir_core.specs.declared.ptr.IRNode.TheVariants.{Operation, Region, BasicBlock}
use Rattle.plir_core.specs.declared.value.DefiningEntity.{DefiningEntity}
use Rattle.plir_core.specs.ContextView.{ContextView, children, types_from}
use Rattle.plir_attr_text.specs.Writable.{IsBuiltin, IsNameOrMark, IsWritable}
use Rattle.plir_walk.specs.GivenNames.{names_at, name_at}
use Rattle.plir_walk.specs.Tree.{IsUnder}
use Rattle.plir_walk.specs.declared.interruptible.WalkContinue.{WalkContinue}
use Rattle.plir_walk.specs.declared.interruptible.WalkContinue.TheVariants.{Advance}
use Rattle.plir_builtin.specs.BuiltinOps.{value_of}
use Rattle.plir_roundtrip.specs.Readable.{IsOpReadable, IsBlockReadable}

-- the keys of what an operation or a block may hold: that of names, and of a constant that of its value too
abbrev pub keys_with : (has_value : Bool) → List (List ℕ)
keys_with true = value_key ∷ names_key ∷ []
keys_with false = names_key ∷ []

-- A walk that looks for something goes on at a node where it is not, and breaks off with it where it is.
abbrev pub IsLookAnswer : {B : Type 0} → (Good : Type 0) → (Found : B → Type 0) → ControlFlow B WalkContinue → Type 0
IsLookAnswer {B} Good Found a = (Good × (a ≡ Continue Advance)) ⊎ ((b : B) × Found b × (a ≡ Break b))

module _ {K A T : Type 0} (s : ContextView K A T) where
  -- the result or argument at a place has a builtin type, and a name that is an identifier, if any
  abbrev pub IsValueReadable : DefiningEntity → (i : ℕ) → Type 0
  IsValueReadable e i = ((h : ℕ) → slice_get (types_from s e) i ≡ Some h → IsBuiltin (tree_of s.types h)) ×
      IsNameOrMark (name_at (names_at s e) i)

  -- the value of a constant, if there is one, can be written
  abbrev pub IsValueWritable : Ptr OperationKind → Type 0
  IsValueWritable p = (x : AttrView A) → value_of s p ≡ Some x → IsWritable s.types x

  -- a node that can be read, whatever stands below it
  abbrev pub IsNodeReadable : IRNode → Type 0
  IsNodeReadable (Operation p) = IsOpReadable s p
  IsNodeReadable (Region r) = Unit {0}
  IsNodeReadable (BasicBlock b) = IsBlockReadable s b

  -- each operation and each block at or under a node can be read
  pub record AllReadable (x : IRNode) : Type 0 where
    pub ops : (q : Ptr OperationKind) → IsUnder (children s) x (Operation q) → IsOpReadable s q
    pub blocks : (b : Ptr BlockKind) → IsUnder (children s) x (BasicBlock b) → IsBlockReadable s b

  -- the answer of a walk that looks for a node that cannot be read
  abbrev pub IsAnswerAt : IRNode → ControlFlow (Unit {0}) WalkContinue → Type 0
  IsAnswerAt n a = IsLookAnswer (IsNodeReadable n) (λ u. IsNodeReadable n → ⊥) a
