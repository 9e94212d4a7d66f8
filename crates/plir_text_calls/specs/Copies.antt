-- Why an operation is not copied by its text.
use Rattle.std.specs.Prelude.{ℕ, List, Bool, Option}
use Rattle.plir_data.specs.declared.op_set.OpSet as op_set
use Rattle.plir_core.specs.ContextView.{ContextView}
use Rattle.plir_core.specs.declared.ptr.Ptr.{Ptr}
use Rattle.plir_core.specs.declared.ptr.Operation.{Operation as OperationKind}
use Rattle.plir_roundtrip.specs.IrReadBack.{IsRoomWanting}
use Rattle.plir_roundtrip.specs.Obstacles.{IsObstacle}
use Rattle.plir_text_calls.specs.declared.roundtrip.copying.CopyErr.{CopyErr}
use Rattle.plir_text_calls.specs.declared.roundtrip.copying.CopyErr.TheVariants.{Obstacle, Wanting}

-- What is told stands against reading it back; or memory or room was wanting.
abbrev pub IsCopyRefusal : {D K A T E : Type 0} → (o : op_set.Ghosts D K A T E) → (find : List ℕ → Option K) →
    (isolated : K → Bool) → ContextView K A T → Ptr OperationKind → CopyErr → Type 0
IsCopyRefusal o find isolated s p (Obstacle why) = IsObstacle o find s p isolated why
IsCopyRefusal o find isolated s p (Wanting found) = IsRoomWanting found.fault
