-- Faults at uses: what is used by name means nothing, or a value of another type than is written.
use Rattle.std.specs.Prelude.{◌≡◌, ℕ, List, [], ◌∷◌, Bool, Option, Some}
use Rattle.plir_data.specs.AttrView.{AttrView}
use Rattle.plir_data.specs.declared.op_set.OpKind.TheVariants as kinds
use Rattle.plir_names.specs.declared.names.Meaning.TheVariants.{Unknown, Only, Ambiguous}
use Rattle.plir_store.specs.Members.{Has}
use Rattle.plir_core.specs.Contents.{op_view}
use Rattle.plir_core.specs.ContextView.{ContextView, type_of_value}
use Rattle.plir_core.specs.declared.ptr.Ptr.{Ptr}
use Rattle.plir_core.specs.declared.ptr.BasicBlock.{BasicBlock as BlockKind}
use Rattle.plir_core.specs.declared.ptr.IRNode.{IRNode}
use Rattle.plir_core.specs.declared.value.Value.{Value}
use Rattle.plir_attr_text.specs.Meaning.{IsDictMeant}
use Rattle.plir_attr_text.specs.Names.{Names, NamesAll}
use Rattle.plir_attr_text.specs.TypeGrammar.{IsText}
use Rattle.plir_read.specs.Heads.{result_names}
use Rattle.plir_read.specs.OpsStanding.{HoldsOp, IsConstantAt, IsHeaderAt}
use Rattle.plir_read_own.specs.OwnTerms.{Header}
use Rattle.plir_read_ir.specs.IrGrammar.{IrWithin}
use Rattle.plir_read_ir.specs.IrStanding.{IsIrAt}
use Rattle.plir_read_ir.specs.IrTerms.{Front, bodied_front, constant_front, own_front, IrOp}
use Rattle.plir_read_ir.specs.Mentions.{Mention, value_bears, block_bears, operand_named, successor_named, Scope}
use Rattle.plir_read_ir.specs.Mentions.{block_meant, nowhere, op_mentions, uses_in, value_meant}
use Rattle.plir_read_ir.specs.OwnOps.{own_attributes}
use Rattle.plir_read_ir.specs.declared.fault.IrFault.{IrFault}
use Rattle.plir_read_ir.specs.declared.fault.IrFault.TheVariants.{Text, UnknownName, AmbiguousName, TypeMismatch}

module _ {K A T : Type 0} (s : ContextView K A T) where
  -- the operation at n holds what an own header says, whatever it uses
  pub record IsOwnMade (n : IRNode) (h : Header K) : Type 0 where
    pub entries : List (List ℕ × AttrView A)
    pub result_types : List ℕ
    pub operands : List Value
    pub successors : List (Ptr BlockKind)
    pub holds : HoldsOp s n (op_view (kinds.Own h.kind) result_types operands successors
        (own_attributes (result_names h.names) entries))
    pub entries_meant : IsDictMeant s.types h.entries entries
    pub results_typed : NamesAll s.types result_types h.signature.result_types

  -- the operation at n is what stands before the regions, whatever it uses
  abbrev pub IsFrontMade : Scope → IRNode → Front K → Type 0
  IsFrontMade at n (bodied_front h) = IsHeaderAt s n h
  IsFrontMade at n (constant_front w a t) = IsConstantAt s n (result_names (w ∷ [])) (a, t)
  IsFrontMade at n (own_front h) = IsOwnMade n h

  -- What is used has a fault, where names mean what these mentions say: none bears the name, or several do; or what
  -- alone bears it is a value of another type than the one that is written.
  abbrev pub IsUnmeant : List Mention → IrFault → Mention → Type 0
  IsUnmeant ms UnknownName (operand_named w t) = value_meant ms w ≡ Unknown
  IsUnmeant ms UnknownName (successor_named l) = block_meant ms l ≡ Unknown
  IsUnmeant ms UnknownName (value_bears w v) = ⊥
  IsUnmeant ms UnknownName (block_bears l b) = ⊥
  IsUnmeant ms AmbiguousName (operand_named w t) = value_meant ms w ≡ Ambiguous
  IsUnmeant ms AmbiguousName (successor_named l) = block_meant ms l ≡ Ambiguous
  IsUnmeant ms AmbiguousName (value_bears w v) = ⊥
  IsUnmeant ms AmbiguousName (block_bears l b) = ⊥
  IsUnmeant ms TypeMismatch (operand_named w t) = (v : Value) × (type : ℕ) × (value_meant ms w ≡ Only v) ×
      Names s.types type t × (type_of_value s v ≡ Some type → ⊥)
  IsUnmeant ms TypeMismatch (successor_named l) = ⊥
  IsUnmeant ms TypeMismatch (value_bears w v) = ⊥
  IsUnmeant ms TypeMismatch (block_bears l b) = ⊥
  IsUnmeant ms (Text f) m = ⊥

-- The whole text stands for an operation that was made but for what it uses, and one of its uses has this fault.
pub record HasUseFault {K A T : Type 0} (find : List ℕ → Option K) (isolated : K → Bool) (k : ℕ) (s : ContextView K A T)
    (bytes : List ℕ) (fault : IrFault) : Type 0 where
  pub root : IRNode
  pub op : IrOp K
  pub text : IsText (IrWithin find k) bytes op
  pub stands : IsIrAt isolated s (IsFrontMade s) nowhere root op
  pub use_of : Mention
  pub used : Has (uses_in (op_mentions isolated s nowhere root op)) use_of
  pub unmeant : IsUnmeant s (op_mentions isolated s nowhere root op) fault use_of

-- a fault that stands at a use is one
abbrev pub IsAtUse : {K A T : Type 0} → (find : List ℕ → Option K) → (isolated : K → Bool) → (k : ℕ) →
    ContextView K A T → (bytes : List ℕ) → IrFault → Type 0
IsAtUse find isolated k s bytes (Text f) = Unit {0}
IsAtUse find isolated k s bytes UnknownName = HasUseFault find isolated k s bytes UnknownName
IsAtUse find isolated k s bytes AmbiguousName = HasUseFault find isolated k s bytes AmbiguousName
IsAtUse find isolated k s bytes TypeMismatch = HasUseFault find isolated k s bytes TypeMismatch
