-- A printed operation is read back as the same tree.
use Rattle.std.proofs.Common.{ℕ, Bool, List, [], inl, inr, Option, Result, Ok, Err, refl, arith}
use Rattle.plir_data.specs.AttrView.{AttrView}
use Rattle.plir_data.specs.Laws.{IsDictOfItself}
use Rattle.plir_data.specs.declared.op_set.OpSet as op_set
use Rattle.plir_core.specs.ContextView.{ContextView}
use Rattle.plir_core.specs.Standing.{IsStanding}
use Rattle.plir_core.specs.WellFormed.{IsWellFormed}
use Rattle.plir_core.specs.declared.ptr.Ptr.{Ptr}
use Rattle.plir_core.specs.declared.ptr.Operation.{Operation as OperationKind}
use Rattle.plir_core.specs.declared.ptr.IRNode.TheVariants.{Operation}
use Rattle.plir_attr_text.specs.laws.Growth.{Grows-on}
use Rattle.plir_print.specs.OpText.{room}
use Rattle.plir_read_ir.specs.IrStanding.{IsFrontAt}
use Rattle.plir_read_ir.specs.Mentions.{nowhere, op_mentions}
use Rattle.plir_read_ir.specs.declared.fault.IrErr.{IrErr}
use Rattle.plir_roundtrip.specs.IrWritten.{ir_term_of}
use Rattle.plir_roundtrip.specs.SameIrTree.{IsSameValue}
use Rattle.plir_roundtrip.specs.SameReadBack.{IsSameReadBack}
use Rattle.plir_roundtrip.specs.UsesMeant.{mentions_of}
use Rattle.plir_roundtrip.proofs.Children.{HasRoom}
use Rattle.plir_roundtrip.proofs.IrReadBack.{IsOfOneIr, ir_read_back}
use Rattle.plir_roundtrip.proofs.IrSame.{op_same}
use Rattle.plir_roundtrip.proofs.Mentioned.{alike_told, op_told}
use Rattle.plir_roundtrip.proofs.NoFault.{no_fault}
use Rattle.plir_roundtrip.proofs.Related.{SayAlike}
use Rattle.plir_roundtrip.proofs.OnePlace.{one_place}

module _ {D K A T E : Type 0} (o : op_set.Ghosts D K A T E) (find : List ℕ → Option K) (isolated : K → Bool)
    (standing : (s : ContextView K A T) → IsWellFormed o.attr_handles s → IsStanding s)
    (itself : IsDictOfItself (AttrView A)) (one : IsOfOneIr find) where
  pub same_read_back : (text : List ℕ) (answer : Result (Ptr OperationKind) IrErr)
      → IsSameReadBack o find isolated text answer
  same_read_back text (Ok q) printed old new p whole well table readable uses is grown read =
      let st = standing printed whole in
      let stands = ir_read_back o find isolated standing one text (Ok q) printed old new p whole readable is read in
      let ns = op_mentions isolated new nowhere (Operation q) (ir_term_of o printed p) in
      let enough : HasRoom printed (Operation p) (room printed (Operation p)) = omega arith in
      let said =
      op_told o isolated printed new (Operation p) (Operation q) (IsFrontAt new ns) st (λ at n. Unit {0})
      (SayAlike printed new (Operation p) (Operation q) (IsSameValue printed new (Operation p) (Operation q)))
      (alike_told o isolated printed new (Operation p) (Operation q) (IsFrontAt new ns)) (room printed (Operation p))
      nowhere nowhere p q (record { body = tt; region = tt }) enough ([], refl, refl) tt stands in
      λ place. op_same o find isolated printed new st whole itself
      (Grows-on printed.types old.types new.types grown read.kept.types) table (Operation p) (Operation q)
      (one_place printed st (Operation p)) (mentions_of o isolated printed p) ns said place
      (room printed (Operation p)) nowhere nowhere p q (record { body = tt; region = tt }) enough readable.nodes
      ([], refl, refl) stands (uses place)
  same_read_back text (Err e) printed old new p whole well table readable uses is grown read =
      elim (ir_read_back o find isolated standing one text (Err e) printed old new p whole readable is read) [
        | inl wanting ↦ wanting
        | inr fault ↦
            absurd (no_fault o find isolated standing one printed new whole well
            (Grows-on printed.types old.types new.types grown read.kept.types) table p readable uses text is e.fault
            fault)
      ]
