-- Readers of whole texts of operations, and what they refuse.
use Rattle.std.proofs.Common.{◌≡◌, ◌⊎◌, inl, inr, ◌≤◌, ◌+◌, ℕ, Bool, true, false, true≢false, List, Result, Ok, Err}
use Rattle.std.proofs.Common.{refl, sym, ap, subst, arith, ◌∙◌}
use Rattle.plir_attr_text.specs.declared.fault.Fault.{Fault}
use Rattle.plir_attr_text.specs.declared.fault.Fault.TheVariants.{Memory, TooManyNodes}
use Rattle.plir_attr_text.specs.declared.fault.ReadErr.{ReadErr}
use Rattle.plir_attr_text.specs.declared.fault.Stop.{Stop}
use Rattle.plir_attr_text.specs.declared.fault.Stop.TheVariants.{OutOfMemory, Crowded, At}
use Rattle.plir_attr_text.specs.laws.ListsAgain.{refused, only_one}
use Rattle.plir_attr_text.specs.laws.ListsFound.{whole_found}
use Rattle.plir_attr_text.specs.Faults.{IsOfText, HasNoPlace, is_of_text}
use Rattle.plir_attr_text.specs.Reading.{Ends, Fails, fault_of}
use Rattle.plir_attr_text.specs.laws.StepLaws.{bind_ok, done, ok_is, Ends-bind, Ends-from}
use Rattle.plir_attr_text.specs.Steps.{◌>>=◌}
use Rattle.plir_attr_text.specs.TypeGrammar.{IsText}
use Rattle.plir_attr_text.specs.Wholes.{end_at, whole}
use Rattle.plir_read.specs.FaultsMet.{Meets}
use Rattle.plir_read.specs.OpGrammar.{OpWithin}
use Rattle.plir_read.specs.OpReading.{op_at}
use Rattle.plir_read.specs.OpTerms.{OpTerm}
use Rattle.plir_read.proofs.OpAgain.{op_within_again}
use Rattle.plir_read.specs.laws.OpFound.{op_found}
use Rattle.plir_read.proofs.OpSteps.{Ends-of}

pub op_text_found : (n : ℕ) (bytes : List ℕ) (w : OpTerm) → whole (op_at n) bytes ≡ Ok w → IsText (OpWithin n) bytes w
op_text_found n bytes w e = whole_found (OpWithin n) 41 (op_at n) (op_found n) bytes w e

pub op_text_refused : (n : ℕ) (bytes : List ℕ) (f : Fault) → whole (op_at n) bytes ≡ Err f → (w : OpTerm) →
    IsText (OpWithin n) bytes w → ⊥
op_text_refused n bytes f e w s = refused (op_at n) (OpWithin n) (op_within_again n) bytes f e w s

-- a text stands for an operation or meets a fault
pub stands_or_meets : (n : ℕ) (text : List ℕ) → ((w : OpTerm) × IsText (OpWithin n) text w) ⊎
    ((f : Fault) × Meets n text f)
stands_or_meets n text = at (whole (op_at n) text) refl
  where
    at : (r : Result OpTerm Fault) → whole (op_at n) text ≡ r → ((w : OpTerm) × IsText (OpWithin n) text w) ⊎
        ((f : Fault) × Meets n text f)
    at (Ok w) e = inl (w, op_text_found n text w e)
    at (Err f) e = inr (f, e)

pub one_fault : (n : ℕ) (text : List ℕ) (f g : Fault) → Meets n text f → Meets n text g → f ≡ g
one_fault n text f g d e = let both = sym d ∙ e in cc

-- a fault that is told is the one that was met
pub told : {X : Type 0} (P : Type 0) (stop : Stop) (f : Fault) (read : Result X Fault) → f ≡ fault_of stop →
    Ends P stop read → IsOfText f → read ≡ Err f
told P OutOfMemory f read e h is = absurd (is.0 e)
told P Crowded f read e h is = absurd (is.1 e)
told P (At g left) f read e h is = h.0 ∙ ap (λ k. Err k) (sym e)

-- no place is told where memory or room was wanting
pub no_place : {X : Type 0} (P : Type 0) (stop : Stop) (e : ReadErr) (read : Result X Fault) → e.fault ≡ fault_of stop →
    ((stop ≡ OutOfMemory) ⊎ (stop ≡ Crowded) → (e.line ≡ 0) × (e.column ≡ 0)) → Ends P stop read → HasNoPlace e
no_place P OutOfMemory e read is nowhere h = λ none. nowhere (inl refl)
no_place P Crowded e read is nowhere h = λ none. nowhere (inr refl)
no_place P (At f left) e read is nowhere h = λ none. absurd (true≢false (sym h.1 ∙ ap is_of_text (sym is) ∙ none))

-- there are too many nodes only where there is no room
pub no_room : {X : Type 0} (P : Type 0) (stop : Stop) (f : Fault) (read : Result X Fault) → f ≡ fault_of stop →
    Ends P stop read → f ≡ TooManyNodes → P
no_room P OutOfMemory f read is h e = absurd (true≢false (sym (ap wants_memory is) ∙ ap wants_memory e))
  where
    wants_memory : Fault → Bool
    wants_memory Memory = true
    wants_memory _ = false
no_room P Crowded f read is h e = h
no_room P (At g left) f read is h e = absurd (true≢false (sym h.1 ∙ ap is_of_text (sym is ∙ e)))

module _ {A : Type 0} (read : List ℕ → Result (A × List ℕ) Fault) (bytes : List ℕ) where
  pub whole_stops : (P : Type 0) (e : Stop) → Ends P e (read bytes) → Ends P e (whole read bytes)
  unfolding whole
  whole_stops P e h = Ends-bind P e (read bytes) (λ x. end_at x.1 >>= λ u. Ok x.0) h

  pub whole_stops_behind : (P : Type 0) (e : Stop) (x : A) (rest : List ℕ) → read bytes ≡ Ok (x, rest) →
      Fails e (end_at rest) → Ends P e (whole read bytes)
  unfolding whole
  whole_stops_behind P e x rest p h =
      let q : (end_at rest >>= λ u. done x) ≡ whole read bytes = rw p refl in
      Ends-from P e _ _ q (Ends-bind P e (end_at rest) (λ u. done x) (Ends-of P e (end_at rest) h))

  pub whole_read : (x : A) (rest : List ℕ) (u : Unit {0}) → read bytes ≡ Ok (x, rest) → end_at rest ≡ Ok u →
      whole read bytes ≡ Ok x
  unfolding whole
  whole_read x rest u p q = rw (p, q) refl

  -- what is read of the whole stands first in it
  pub whole_first : (x : A) → whole read bytes ≡ Ok x → (rest : List ℕ) × (read bytes ≡ Ok (x, rest))
  unfolding whole
  whole_first x e =
      let a = bind_ok (read bytes) (λ x. end_at x.1 >>= λ u. Ok x.0) x e in
      let b = bind_ok (end_at a.0.1) (λ u. done a.0.0) x a.2 in
      (a.0.1, subst (λ (z : A). read bytes ≡ Ok (z, a.0.1)) (ok_is a.0.0 x b.2) a.1)

wider : (m n : ℕ) (bytes : List ℕ) (w : OpTerm) → m ≤ n → IsText (OpWithin m) bytes w → IsText (OpWithin n) bytes w
wider m n bytes w le s =
    record { tokens = s.tokens; are_tokens = s.are_tokens; spelled = (s.spelled.0, omega (arith, le, s.spelled.1)) }

-- a text stands for one operation, as it is written, at most
pub one_op : (m n : ℕ) (bytes : List ℕ) (v w : OpTerm) → IsText (OpWithin m) bytes v → IsText (OpWithin n) bytes w →
    v ≡ w
one_op m n bytes v w s r =
    only_one (op_at (m + n)) (OpWithin (m + n)) (op_within_again (m + n)) bytes v w
    (wider m (m + n) bytes v (omega arith) s) (wider n (m + n) bytes w (omega arith) r)
