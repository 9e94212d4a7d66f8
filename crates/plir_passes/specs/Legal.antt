-- Operations of illegal kinds, and what they are not above.
use Rattle.std.specs.Prelude.{◌≡◌, Bool, false, Option, Some, None}
use Rattle.plir_data.specs.declared.op_set.OpKind.{OpKind}
use Rattle.plir_store.specs.Members.{Has}
use Rattle.plir_core.specs.declared.ptr.IRNode.{IRNode}
use Rattle.plir_core.specs.declared.ptr.IRNode.TheVariants.{Operation, Region, BasicBlock}
use Rattle.plir_core.specs.Above.{Reaches}
use Rattle.plir_core.specs.ContextView.{ContextView, children, parent_of, kind_of}

-- whether there is a kind, and it passes a test
abbrev pub is_kind : {K : Type 0} → (OpKind K → Bool) → Option (OpKind K) → Bool
is_kind test None = false
is_kind test (Some k) = test k

module _ {K A T : Type 0} (illegal : OpKind K → Bool) where
  -- whether a node is an operation of an illegal kind
  abbrev pub is_illegal : ContextView K A T → IRNode → Bool
  is_illegal s (Operation p) = is_kind illegal (kind_of s p)
  is_illegal s (Region p) = false
  is_illegal s (BasicBlock p) = false

  -- no child of a node is an illegal operation
  abbrev pub HasLegalChildren : ContextView K A T → IRNode → Type 0
  HasLegalChildren s n = (a : IRNode) → Has (children s n) a → is_illegal s a ≡ false

  -- a node is no illegal operation, and stands below none
  abbrev pub IsUntouched : ContextView K A T → IRNode → Type 0
  IsUntouched s n = (a : IRNode) → Reaches (parent_of s) n a → is_illegal s a ≡ false
