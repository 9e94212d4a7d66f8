-- Texts of builtin operations are texts of operations of any kind.
use Rattle.std.specs.Prelude.{ℕ, List, Bool, Option}
use Rattle.plir_data.specs.declared.op_set.OpSet as op_set
use Rattle.plir_core.specs.ContextView.{ContextView}
use Rattle.plir_core.specs.WellFormed.{IsWellFormed}
use Rattle.plir_core.specs.declared.ptr.Ptr.{Ptr}
use Rattle.plir_core.specs.declared.ptr.Operation.{Operation as OperationKind}
use Rattle.plir_roundtrip.specs.Readable.{IsReadable}
use Rattle.plir_roundtrip.specs.IrReadable.{HasReadableText}
use Rattle.plir_roundtrip.specs.UsesMeant.{UsesStand}

-- each operation that the reader of builtin operations reads back has a text that can be read, in which what is used
-- stands
abbrev pub BuiltinTextsAreRead : {D K A T E : Type 0} → op_set.Ghosts D K A T E → (find : List ℕ → Option K) →
    (isolated : K → Bool) → Type 0
BuiltinTextsAreRead {D} {K} {A} {T} {E} o find isolated =
    (s : ContextView K A T) (p : Ptr OperationKind) → IsWellFormed o.attr_handles s → IsReadable o s p →
    HasReadableText o find s p × UsesStand o isolated s p
