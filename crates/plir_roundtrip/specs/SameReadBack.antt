-- What was printed is read back as the same tree, with what its operations use.
use Rattle.std.specs.Prelude.{◌≡◌, ℕ, List, Bool, Option, Result, MatchResult}
use Rattle.plir_data.specs.Types.{IsTypeTable}
use Rattle.plir_data.specs.declared.op_set.OpSet as op_set
use Rattle.plir_core.specs.declared.ptr.Ptr.{Ptr}
use Rattle.plir_core.specs.declared.ptr.Operation.{Operation as OperationKind}
use Rattle.plir_core.specs.declared.ptr.IRNode.TheVariants.{Operation}
use Rattle.plir_core.specs.ContextView.{ContextView}
use Rattle.plir_core.specs.WellFormed.{IsWellFormed}
use Rattle.plir_attr_text.specs.Names.{Grows}
use Rattle.plir_print.specs.OpText.{op_text}
use Rattle.plir_read_ir.specs.declared.fault.IrErr.{IrErr}
use Rattle.plir_roundtrip.specs.IrReadBack.{IsIrRead, IsRoomWanting}
use Rattle.plir_roundtrip.specs.IrReadable.{HasReadableText}
use Rattle.plir_roundtrip.specs.SameIrTree.{IsSameIrTree}
use Rattle.plir_roundtrip.specs.UsesMeant.{UsesStand}

-- Where the text is that of an operation p that can be read, each name of which means what it was written for, printed
-- from the context `printed`, and this is the answer to it, read into a context `old` whose types have grown from
-- those, the answer is the root of the same tree, or memory or room for a node was wanting. `new` is the context that
-- the reader left, a well-formed one.
abbrev pub IsSameReadBack : {D K A T E : Type 0} → (o : op_set.Ghosts D K A T E) → (find : List ℕ → Option K) →
    (isolated : K → Bool) → (text : List ℕ) → Result (Ptr OperationKind) IrErr → Type 0
IsSameReadBack {D} {K} {A} {T} {E} o find isolated text answer =
    (printed old new : ContextView K A T) (p : Ptr OperationKind) → IsWellFormed o.attr_handles printed →
    IsWellFormed o.attr_handles new → IsTypeTable o.type_handles new.types → HasReadableText o find printed p →
    UsesStand o isolated printed p →
    text ≡ op_text o printed p → Grows printed.types old.types → IsIrRead find isolated old text answer new →
    MatchResult answer (λ q. IsSameIrTree printed new (Operation p) (Operation q))
    (λ e. IsRoomWanting e.fault)
