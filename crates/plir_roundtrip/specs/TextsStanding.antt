-- What the texts of operations of any kind stand for, and that there are such.
use Rattle.std.specs.Prelude.{ℕ, List, Option}
use Rattle.plir_data.specs.declared.op_set.OpSet as op_set
use Rattle.plir_core.specs.declared.ptr.Ptr.{Ptr}
use Rattle.plir_core.specs.declared.ptr.Operation.{Operation as OperationKind}
use Rattle.plir_core.specs.declared.ptr.IRNode.TheVariants.{Operation}
use Rattle.plir_core.specs.ContextView.{ContextView}
use Rattle.plir_core.specs.WellFormed.{IsWellFormed}
use Rattle.plir_attr_text.specs.TypeGrammar.{IsText}
use Rattle.plir_print.specs.HeaderAttrs.{IsPrintable}
use Rattle.plir_print.specs.OpText.{op_text}
use Rattle.plir_read_ir.specs.IrGrammar.{IrWithin}
use Rattle.plir_roundtrip.specs.IrReadable.{HasReadableText}
use Rattle.plir_roundtrip.specs.IrWritten.{ir_term_of}

-- the text of each operation that can be read stands for it, as it is written
abbrev pub IrTextsStand : {D K A T E : Type 0} → op_set.Ghosts D K A T E → (find : List ℕ → Option K) → Type 0
IrTextsStand o find =
    (s : ContextView _ _ _) (p : Ptr OperationKind) → IsWellFormed o.attr_handles s → HasReadableText o find s p →
    IsText (IrWithin find 200) (op_text o s p) (ir_term_of o s p)

-- each operation whose text can be read has what its text tells, so that it can be printed
abbrev pub IrTextsArePrintable : {D K A T E : Type 0} → op_set.Ghosts D K A T E → (find : List ℕ → Option K) → Type 0
IrTextsArePrintable {D} {K} {A} {T} {E} o find =
    (s : ContextView K A T) (p : Ptr OperationKind) → HasReadableText o find s p → IsPrintable s (Operation p)
