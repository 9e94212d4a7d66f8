-- What a printed operation is read as.
use Rattle.std.proofs.Common.{◌≡◌, ◌≤◌, ◌⊎◌, ℕ, List, inl, inr, Result, Ok, Err, refl, sym, subst, arith}
use Rattle.plir_data.specs.AttrView.{AttrView}
use Rattle.plir_data.specs.Laws.{IsDictOfItself}
use Rattle.plir_data.specs.declared.op_set.OpSet as op_set
use Rattle.plir_core.specs.declared.ptr.Ptr.{Ptr}
use Rattle.plir_core.specs.declared.ptr.Operation.{Operation as OperationKind}
use Rattle.plir_core.specs.declared.ptr.IRNode.TheVariants.{Operation}
use Rattle.plir_core.specs.Standing.{IsStanding}
use Rattle.plir_core.specs.ContextView.{ContextView}
use Rattle.plir_core.specs.WellFormed.{IsWellFormed}
use Rattle.plir_attr_text.specs.laws.Growth.{Grows-on}
use Rattle.plir_attr_text.specs.TypeGrammar.{IsText}
use Rattle.plir_attr_text.specs.declared.fault.Fault.{Fault}
use Rattle.plir_attr_text.specs.declared.fault.Fault.TheVariants as faults
use Rattle.plir_attr_text.specs.declared.fault.ReadErr.{ReadErr}
use Rattle.plir_print.specs.OpText.{op_text, room}
use Rattle.plir_read.specs.OpGrammar.{OpWithin}
use Rattle.plir_read.specs.OpTerms.{OpTerm, op_levels}
use Rattle.plir_read.specs.OpsStanding.{IsOpAt}
use Rattle.plir_attr_text.specs.Faults.{IsOfText}
use Rattle.plir_roundtrip.specs.OpAnswer.{IsReadBack}
use Rattle.plir_roundtrip.specs.Readable.{IsReadable}
use Rattle.plir_roundtrip.specs.Written.{op_term_of}
use Rattle.plir_roundtrip.specs.ReadableParts.{AllReadable}
use Rattle.plir_roundtrip.proofs.Children.{HasRoom}
use Rattle.plir_roundtrip.proofs.MeantAgain.{whole_text}
use Rattle.plir_roundtrip.proofs.OpShown.{op-shown}
use Rattle.plir_roundtrip.proofs.TreeSame.{op_same}

-- a text stands for one operation at most
abbrev pub IsOfOne : Type 0
IsOfOne = (m n : ℕ) (bytes : List ℕ) (v w : OpTerm) → IsText (OpWithin m) bytes v → IsText (OpWithin n) bytes w → v ≡ w

-- a fault that is none of the text
refusal_alone : (f : Fault) → (IsOfText f → ⊥) → (f ≡ faults.Memory) ⊎ (f ≡ faults.TooManyNodes)
refusal_alone faults.Unexpected h = absurd (h (λ e. absurd cc, λ e. absurd cc))
refusal_alone faults.BadEscape h = absurd (h (λ e. absurd cc, λ e. absurd cc))
refusal_alone faults.IntegerOutOfRange h = absurd (h (λ e. absurd cc, λ e. absurd cc))
refusal_alone faults.IntegerWidthUnsupported h = absurd (h (λ e. absurd cc, λ e. absurd cc))
refusal_alone faults.TooDeep h = absurd (h (λ e. absurd cc, λ e. absurd cc))
refusal_alone faults.ForwardRefOpExistenceErr h = absurd (h (λ e. absurd cc, λ e. absurd cc))
refusal_alone (faults.NResultsVerifyErr wanted found) h = absurd (h (λ e. absurd cc, λ e. absurd cc))
refusal_alone faults.Memory h = inl refl
refusal_alone faults.TooManyNodes h = inr refl

module _ {D K A T E : Type 0} (o : op_set.Ghosts D K A T E) (s : ContextView K A T) (st : IsStanding s)
    (p : Ptr OperationKind) (readable : IsReadable o s p) where
  all_readable : AllReadable s (Operation p)
  all_readable = record { ops = readable.ops; blocks = readable.blocks }

  enough : HasRoom s (Operation p) (room s (Operation p))
  enough = omega arith

  -- the text of an operation stands for it, as it is written
  pub stands : (n : ℕ) → op_levels (op_term_of o s p) ≤ n → IsText (OpWithin n) (op_text o s p) (op_term_of o s p)
  stands n le =
      let shown = op-shown o s st (room s (Operation p)) 0 (room s (Operation p)) p enough enough all_readable in
      whole_text (OpWithin n) (op_term_of o s p) (op_text o s p)
      (record { first = shown.first; others = shown.others; spelled = (shown.spelled, le); begun = shown.begun })

-- whatever the reader answers to the text of an operation that can be read back
module _ {D K A T E : Type 0} (o : op_set.Ghosts D K A T E)
    (standing : (s : ContextView K A T) → IsWellFormed o.attr_handles s → IsStanding s)
    (itself : IsDictOfItself (AttrView A)) (one : IsOfOne) where
  pub read_back : (text : List ℕ) (answer : Result (Ptr OperationKind) ReadErr) → IsReadBack o text answer
  read_back text (Ok q) printed old new p whole table readable is grown read =
      let st = standing printed whole in
      let ours =
      subst (λ l. IsText (OpWithin 200) l (op_term_of o printed p)) (sym is)
      (stands o printed st p readable 200 readable.levels) in
      let found = read.found in
      let same = one 200 200 text found.0 (op_term_of o printed p) found.1 ours in
      let at = subst (λ w. IsOpAt new (Operation q) w) same found.2 in
      λ place. op_same o printed new st whole itself (Grows-on printed.types old.types new.types grown read.kept.types)
      table place (room printed (Operation p)) p (Operation q) (enough o printed st p readable)
      (all_readable o printed st p readable) at
  read_back text (Err e) printed old new p whole table readable is grown read =
      let st = standing printed whole in
      let ours =
      subst (λ l. IsText (OpWithin 200) l (op_term_of o printed p)) (sym is)
      (stands o printed st p readable 200 readable.levels) in
      refusal_alone e.fault (λ other. read.refused other (op_term_of o printed p) ours)
