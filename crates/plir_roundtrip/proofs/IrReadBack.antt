-- What a printed operation of any kind is read as.
use Rattle.std.proofs.Common.{◌≡◌, ◌⊎◌, ℕ, Bool, List, inl, inr, Option, Result, Ok, Err, refl, sym, ap, subst}
use Rattle.plir_data.specs.declared.op_set.OpSet as op_set
use Rattle.plir_core.specs.declared.ptr.Ptr.{Ptr}
use Rattle.plir_core.specs.declared.ptr.Operation.{Operation as OperationKind}
use Rattle.plir_core.specs.declared.ptr.IRNode.TheVariants.{Operation}
use Rattle.plir_core.specs.Standing.{IsStanding}
use Rattle.plir_core.specs.ContextView.{ContextView}
use Rattle.plir_core.specs.WellFormed.{IsWellFormed}
use Rattle.plir_attr_text.specs.Faults.{IsOfText}
use Rattle.plir_attr_text.specs.TypeGrammar.{IsText}
use Rattle.plir_attr_text.specs.declared.fault.Fault.{Fault}
use Rattle.plir_attr_text.specs.declared.fault.Fault.TheVariants as faults
use Rattle.plir_read_ir.specs.IrGrammar.{IrWithin}
use Rattle.plir_read_ir.specs.IrStanding.{IsIrWhole}
use Rattle.plir_read_ir.specs.IrTerms.{IrOp}
use Rattle.plir_read_ir.specs.UseFaults.{IsAtUse}
use Rattle.plir_read_ir.specs.declared.fault.IrErr.{IrErr}
use Rattle.plir_read_ir.specs.declared.fault.IrFault.{IrFault}
use Rattle.plir_read_ir.specs.declared.fault.IrFault.TheVariants.{Text, UnknownName, AmbiguousName, TypeMismatch}
use Rattle.plir_roundtrip.specs.IrReadBack.{IsIrReadBack, IsNoFaultOfText}
use Rattle.plir_roundtrip.specs.IrWritten.{ir_term_of}
use Rattle.plir_roundtrip.proofs.IrStands.{ir_stands}

-- a fault that is none of the text
pub refusal_alone : (f : Fault) → (IsOfText f → ⊥) → (f ≡ faults.Memory) ⊎ (f ≡ faults.TooManyNodes)
refusal_alone faults.Unexpected h = absurd (h (λ e. absurd cc, λ e. absurd cc))
refusal_alone faults.BadEscape h = absurd (h (λ e. absurd cc, λ e. absurd cc))
refusal_alone faults.IntegerOutOfRange h = absurd (h (λ e. absurd cc, λ e. absurd cc))
refusal_alone faults.IntegerWidthUnsupported h = absurd (h (λ e. absurd cc, λ e. absurd cc))
refusal_alone faults.TooDeep h = absurd (h (λ e. absurd cc, λ e. absurd cc))
refusal_alone faults.ForwardRefOpExistenceErr h = absurd (h (λ e. absurd cc, λ e. absurd cc))
refusal_alone (faults.NResultsVerifyErr wanted found) h = absurd (h (λ e. absurd cc, λ e. absurd cc))
refusal_alone faults.Memory h = inl refl
refusal_alone faults.TooManyNodes h = inr refl

-- a text stands for one operation at most
abbrev pub IsOfOneIr : {K : Type 0} → (find : List ℕ → Option K) → Type 0
IsOfOneIr {K} find = (m n : ℕ) (bytes : List ℕ) (v w : IrOp K) → IsText (IrWithin find m) bytes v →
    IsText (IrWithin find n) bytes w → v ≡ w

module _ {K A T : Type 0} (find : List ℕ → Option K) (isolated : K → Bool) (new : ContextView K A T) (text : List ℕ)
  where
    named : (f : Fault) → (f ≡ faults.Memory) ⊎ (f ≡ faults.TooManyNodes)
        → IsNoFaultOfText find isolated new text (Text f)
    named f (inl e) = inl (inl (ap Text e))
    named f (inr e) = inl (inr (ap Text e))

    -- which fault is left, where none of the text is told
    pub left_over : (fault : IrFault) → ((f : Fault) → fault ≡ Text f → IsOfText f → ⊥)
        → IsAtUse find isolated 200 new text fault → IsNoFaultOfText find isolated new text fault
    left_over (Text f) none use_ = named f (refusal_alone f (none f refl))
    left_over UnknownName none use_ = inr use_
    left_over AmbiguousName none use_ = inr use_
    left_over TypeMismatch none use_ = inr use_

-- whatever the reader answers to the text of an operation that can be read
module _ {D K A T E : Type 0} (o : op_set.Ghosts D K A T E) (find : List ℕ → Option K) (isolated : K → Bool)
    (standing : (s : ContextView K A T) → IsWellFormed o.attr_handles s → IsStanding s) (one : IsOfOneIr find) where
  pub ir_read_back : (text : List ℕ) (answer : Result (Ptr OperationKind) IrErr)
      → IsIrReadBack o find isolated text answer
  ir_read_back text (Ok q) printed old new p whole readable is read =
      let ours =
      subst (λ l. IsText (IrWithin find 200) l (ir_term_of o printed p)) (sym is)
      (ir_stands o find printed whole (standing printed whole) p readable) in
      let found = read.found in
      let same = one 200 200 text found.0 (ir_term_of o printed p) found.1 ours in
      subst (λ w. IsIrWhole isolated new (Operation q) w) same found.2
  ir_read_back text (Err e) printed old new p whole readable is read =
      let ours =
      subst (λ l. IsText (IrWithin find 200) l (ir_term_of o printed p)) (sym is)
      (ir_stands o find printed whole (standing printed whole) p readable) in
      left_over find isolated new text e.fault
      (λ f told of_text. read.refused f told of_text (ir_term_of o printed p) ours) read.unmeant
