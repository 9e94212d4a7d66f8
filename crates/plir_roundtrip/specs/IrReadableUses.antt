-- Operations of any kind whose texts are read back as the same trees.
use Rattle.std.specs.Prelude.{ℕ, List, Bool, Option}
use Rattle.plir_data.specs.declared.op_set.OpSet as op_set
use Rattle.plir_core.specs.declared.ptr.Ptr.{Ptr}
use Rattle.plir_core.specs.declared.ptr.Operation.{Operation as OperationKind}
use Rattle.plir_core.specs.declared.ptr.IRNode.TheVariants.{Operation}
use Rattle.plir_core.specs.ContextView.{ContextView, IsLive}
use Rattle.plir_core.specs.WellFormed.{IsWellFormed}
use Rattle.plir_roundtrip.specs.IrReadable.{HasReadableText}
use Rattle.plir_roundtrip.specs.UsesMeant.{UsesStand}
use Rattle.plir_roundtrip.specs.UsesWithin.{AreCounted, UsesWithin}

-- An operation whose text stands for it, and each operation at or under which uses what it can name.
pub record IsIrReadable {D K A T E : Type 0} (o : op_set.Ghosts D K A T E) (find : List ℕ → Option K)
    (isolated : K → Bool) (s : ContextView K A T) (p : Ptr OperationKind) : Type 0 where
  pub text : HasReadableText o find s p
  pub uses : UsesWithin isolated s (Operation p)
  pub counted : AreCounted s (Operation p)

-- each name that the text of such an operation uses means what it was written for
abbrev pub ReadableUsesStand : {D K A T E : Type 0} → op_set.Ghosts D K A T E → (find : List ℕ → Option K) →
    (isolated : K → Bool) → Type 0
ReadableUsesStand {D} {K} {A} {T} {E} o find isolated =
    (s : ContextView K A T) (p : Ptr OperationKind) → IsWellFormed o.attr_handles s → IsLive s (Operation p) →
    IsIrReadable o find isolated s p → HasReadableText o find s p × UsesStand o isolated s p
