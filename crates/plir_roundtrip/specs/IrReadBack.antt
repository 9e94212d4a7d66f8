-- What the reader of operations of any kind answers to what was printed.
use Rattle.std.specs.Prelude.{◌≡◌, ◌⊎◌, ℕ, List, Bool, Option, Result, IfOk, IfErr, MatchResult}
use Rattle.plir_data.specs.declared.op_set.OpSet as op_set
use Rattle.plir_core.specs.declared.ptr.Ptr.{Ptr}
use Rattle.plir_core.specs.declared.ptr.Operation.{Operation as OperationKind}
use Rattle.plir_core.specs.declared.ptr.IRNode.TheVariants.{Operation}
use Rattle.plir_core.specs.Made.{IsMade}
use Rattle.plir_core.specs.ContextView.{ContextView}
use Rattle.plir_core.specs.WellFormed.{IsWellFormed}
use Rattle.plir_attr_text.specs.Faults.{IsOfText}
use Rattle.plir_attr_text.specs.TypeGrammar.{IsText}
use Rattle.plir_attr_text.specs.declared.fault.Fault.{Fault}
use Rattle.plir_attr_text.specs.declared.fault.Fault.TheVariants.{Memory, TooManyNodes}
use Rattle.plir_print.specs.OpText.{op_text}
use Rattle.plir_read.specs.Keeping.{KeepsOlder}
use Rattle.plir_read_ir.specs.IrGrammar.{IrWithin}
use Rattle.plir_read_ir.specs.IrStanding.{IsIrWhole, StandsForIr}
use Rattle.plir_read_ir.specs.IrTerms.{IrOp}
use Rattle.plir_read_ir.specs.UseFaults.{HasUseFault, IsAtUse}
use Rattle.plir_read_ir.specs.declared.fault.IrErr.{IrErr}
use Rattle.plir_read_ir.specs.declared.fault.IrFault.{IrFault}
use Rattle.plir_read_ir.specs.declared.fault.IrFault.TheVariants.{Text}
use Rattle.plir_roundtrip.specs.IrReadable.{HasReadableText}
use Rattle.plir_roundtrip.specs.IrWritten.{ir_term_of}

-- memory or room for a node was wanting
abbrev pub IsRoomWanting : IrFault → Type 0
IsRoomWanting fault = (fault ≡ Text Memory) ⊎ (fault ≡ Text TooManyNodes)

module _ {K A T : Type 0} (find : List ℕ → Option K) (isolated : K → Bool) where
  -- The answer to a text, read into the context `old`, which leaves the context `new`: an operation that the text
  -- stands for, made anew; or memory or room was wanting, or the text stands for no operation, or one of its uses has a
  -- fault. What was there is as it was.
  pub record IsIrRead (old : ContextView K A T) (text : List ℕ) (answer : Result (Ptr OperationKind) IrErr)
      (new : ContextView K A T) : Type 0 where
    pub found : IfOk answer (λ p. StandsForIr find isolated 200 new text (Operation p))
    pub made : IfOk answer (λ p. IsMade old.nodes new.nodes (Operation p))
    pub refused : IfErr answer (λ e. (f : Fault) → e.fault ≡ Text f → IsOfText f → (o : IrOp K) →
        IsText (IrWithin find 200) text o → ⊥)
    pub unmeant : IfErr answer (λ e. IsAtUse find isolated 200 new text e.fault)
    pub kept : KeepsOlder old new

  -- memory or room for a node was wanting, or something that the text uses by name has this fault
  abbrev pub IsNoFaultOfText : ContextView K A T → (text : List ℕ) → IrFault → Type 0
  IsNoFaultOfText new text fault = IsRoomWanting fault ⊎ HasUseFault find isolated 200 new text fault

-- Where the text is that of an operation p that can be read, printed from the context `printed`, and this is the answer
-- to it, the answer is the operation as it was written, or no fault of the text is told. `new` is the context that the
-- reader left.
abbrev pub IsIrReadBack : {D K A T E : Type 0} → (o : op_set.Ghosts D K A T E) → (find : List ℕ → Option K) →
    (isolated : K → Bool) → (text : List ℕ) → Result (Ptr OperationKind) IrErr → Type 0
IsIrReadBack {D} {K} {A} {T} {E} o find isolated text answer =
    (printed old new : ContextView K A T) (p : Ptr OperationKind) → IsWellFormed o.attr_handles printed →
    HasReadableText o find printed p → text ≡ op_text o printed p → IsIrRead find isolated old text answer new →
    MatchResult answer (λ q. IsIrWhole isolated new (Operation q) (ir_term_of o printed p))
    (λ e. IsNoFaultOfText find isolated new text e.fault)
