-- Whole texts of operations of all kinds.
use Rattle.std.proofs.Common.{◌≡◌, ◌⊎◌, ℕ, ◌+◌, ◌≤◌, List, [], Option, Result, Ok, Err, refl, sym, ◌∙◌, arith, inl, inr}
use Rattle.plir_attr_text.specs.Bytes.{is_blank, past}
use Rattle.plir_attr_text.specs.Lists.{past_sign}
use Rattle.plir_attr_text.specs.Tokens.{look}
use Rattle.plir_attr_text.specs.TypeGrammar.{IsText}
use Rattle.plir_attr_text.specs.Wholes.{end_at, whole}
use Rattle.plir_attr_text.specs.declared.fault.Fault.{Fault}
use Rattle.plir_attr_text.specs.laws.StepLaws.{ok_is}
use Rattle.plir_read_ir.specs.IrGrammar.{IrWithin}
use Rattle.plir_read_ir.specs.IrOpReading.{MeetsIr, ir_op_at}
use Rattle.plir_read_ir.specs.IrTerms.{IrOp}
use Rattle.plir_read_ir.proofs.IrAgain.{op_again}
use Rattle.plir_read_ir.proofs.IrFound.{text_found}
use Rattle.plir_read_ir.proofs.OpenedAgain.{EndsRegions}

-- where nothing comes but white space, no region begins
blank_ends : (bytes : List ℕ) → past is_blank bytes ≡ [] → EndsRegions bytes
unfolding past_sign look
blank_ends bytes e = rw e refl

module _ {K : Type 0} (find : List ℕ → Option K) where
  -- what a whole text stands for is read
  text_again : (n : ℕ) (bytes : List ℕ) (o : IrOp K) → IsText (IrWithin find n) bytes o →
      whole (ir_op_at find n) bytes ≡ Ok o
  unfolding whole end_at
  text_again n bytes o s = rw (
    op_again find o n s.spelled.1 s.tokens bytes s.are_tokens.rest s.spelled.0
        (blank_ends s.are_tokens.rest s.are_tokens.blank) s.are_tokens.begins,
    s.are_tokens.blank,
  ) refl

  -- a text that meets a fault stands for nothing
  pub text_refused : (n : ℕ) (bytes : List ℕ) (f : Fault) → MeetsIr find n bytes f → (o : IrOp K) →
      IsText (IrWithin find n) bytes o → ⊥
  text_refused n bytes f e o s = let both = sym e ∙ text_again n bytes o s in cc

  -- a text stands for an operation or meets a fault
  pub stands_or_meets : (n : ℕ) (bytes : List ℕ) → ((o : IrOp K) × IsText (IrWithin find n) bytes o) ⊎
      ((f : Fault) × MeetsIr find n bytes f)
  stands_or_meets n bytes = at (whole (ir_op_at find n) bytes) refl
    where
      at : (r : Result (IrOp K) Fault) → whole (ir_op_at find n) bytes ≡ r →
          ((o : IrOp K) × IsText (IrWithin find n) bytes o) ⊎ ((f : Fault) × MeetsIr find n bytes f)
      at (Ok o) e = inl (o, text_found find n bytes o e)
      at (Err f) e = inr (f, e)

  pub one_fault : (n : ℕ) (bytes : List ℕ) (f g : Fault) → MeetsIr find n bytes f → MeetsIr find n bytes g → f ≡ g
  one_fault n bytes f g d e = let both = sym d ∙ e in cc

  wider : (m n : ℕ) (bytes : List ℕ) (o : IrOp K) → m ≤ n → IsText (IrWithin find m) bytes o →
      IsText (IrWithin find n) bytes o
  wider m n bytes o le s =
      record { tokens = s.tokens; are_tokens = s.are_tokens; spelled = (s.spelled.0, omega (arith, le, s.spelled.1)) }

  -- a text stands for one operation, as it is written, at most
  pub one_operation : (m n : ℕ) (bytes : List ℕ) (v w : IrOp K) → IsText (IrWithin find m) bytes v →
      IsText (IrWithin find n) bytes w → v ≡ w
  one_operation m n bytes v w s r =
      ok_is v w (sym (text_again (m + n) bytes v (wider m (m + n) bytes v (omega arith) s)) ∙
      text_again (m + n) bytes w (wider n (m + n) bytes w (omega arith) r))
