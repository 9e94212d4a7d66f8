-- Readers of whole texts, and what they refuse.
use Rattle.std.proofs.Common.{◌≡◌, ◌≢◌, ◌⊎◌, inl, ◌≤◌, ◌+◌, ℕ, suc, arith, true≢false, List, Result, Ok, Err, refl, sym}
use Rattle.std.proofs.Common.{ap, ◌∙◌, subst}
use Rattle.plir_data.specs.declared.types.Signedness.{Signedness}
use Rattle.plir_attr_text.specs.declared.fault.Stop.TheVariants.{OutOfMemory, Crowded, At}
use Rattle.plir_attr_text.specs.TypeGrammar.{IsText, TypeWithin, IsInteger, FunctionWithin}
use Rattle.plir_attr_text.specs.laws.TypesFound.{integer_found, function_found, type_found}
use Rattle.plir_attr_text.specs.laws.TypesAgain.{integer_again, type_within_again, function_within_again}
use Rattle.plir_attr_text.specs.laws.StepLaws.{Fails-bind, Fails-from}
use Rattle.plir_attr_text.specs.{declared.fault.Fault.Fault, declared.fault.Fault.TheVariants.Memory}
use Rattle.plir_attr_text.specs.{declared.fault.ReadErr.ReadErr, declared.fault.Stop.Stop, Terms.TypeTerm}
use Rattle.plir_attr_text.specs.{Terms.TypeTerms, TypeReading.integer_at, TypeReading.function_at, TypeReading.type_at}
use Rattle.plir_attr_text.specs.{Wholes.end_at, Wholes.whole, Steps.◌>>=◌, Faults.HasNoPlace, Faults.is_of_text}
use Rattle.plir_attr_text.specs.{Reading.Fails, Reading.Reads, Reading.fault_of, laws.StepLaws.done}
use Rattle.plir_attr_text.specs.{laws.ListsFound.IsSound, laws.ListsFound.whole_found, laws.ListsAgain.refused}
use Rattle.plir_attr_text.specs.{laws.ListsAgain.only_one}

-- a fault that is told is the one that was met
pub told : {X : Type 0} (stop : Stop) (f : Fault) (read : Result X Fault) → f ≡ fault_of stop → Fails stop read →
    f ≢ Memory → read ≡ Err f
told OutOfMemory f read e h n = absurd (n e)
told Crowded f read e h n = absurd h
told (At g left) f read e h n = h.0 ∙ ap (λ k. Err k) (sym e)

-- no place is told where memory was wanting
pub no_place : {X : Type 0} (stop : Stop) (e : ReadErr) (read : Result X Fault) → e.fault ≡ fault_of stop →
    ((stop ≡ OutOfMemory) ⊎ (stop ≡ Crowded) → (e.line ≡ 0) × (e.column ≡ 0)) → Fails stop read → HasNoPlace e
no_place OutOfMemory e read is nowhere h = λ none. nowhere (inl refl)
no_place Crowded e read is nowhere h = absurd h
no_place (At f left) e read is nowhere h = λ none. absurd (true≢false (sym h.1 ∙ ap is_of_text (sym is) ∙ none))

pub type_text_found : (n : ℕ) (bytes : List ℕ) (t : TypeTerm) → whole (type_at n) bytes ≡ Ok t →
    IsText (TypeWithin n) bytes t
type_text_found n bytes t e = whole_found (TypeWithin n) 41 (type_at n) (type_found n) bytes t e

pub type_text_refused : (n : ℕ) (bytes : List ℕ) (f : Fault) → whole (type_at n) bytes ≡ Err f → (t : TypeTerm) →
    IsText (TypeWithin n) bytes t → ⊥
type_text_refused n bytes f e t s = refused (type_at n) (TypeWithin n) (type_within_again n) bytes f e t s

pub integer_text_found : (bytes : List ℕ) (x : Signedness × ℕ) → whole integer_at bytes ≡ Ok x →
    IsText IsInteger bytes x
integer_text_found bytes x e = whole_found IsInteger 41 integer_at integer_found bytes x e

pub integer_text_refused : (bytes : List ℕ) (f : Fault) → whole integer_at bytes ≡ Err f → (x : Signedness × ℕ) →
    IsText IsInteger bytes x → ⊥
integer_text_refused bytes f e x s = refused integer_at IsInteger integer_again bytes f e x s

function_sound : (n : ℕ) → IsSound (FunctionWithin (suc n)) (function_at (type_at n))
function_sound n bytes x e = let f = function_found n (type_at n) (type_found n) bytes x e in
    record { tokens = f.tokens; begins = f.begins; spelled = (f.spelled.0, omega (arith, f.spelled.1, f.spelled.2)) }

pub function_text_found : (n : ℕ) (bytes : List ℕ) (x : TypeTerms × TypeTerms) →
    whole (function_at (type_at n)) bytes ≡ Ok x → IsText (FunctionWithin (suc n)) bytes x
function_text_found n bytes x e =
    whole_found (FunctionWithin (suc n)) 41 (function_at (type_at n)) (function_sound n) bytes x e

pub function_text_refused : (n : ℕ) (bytes : List ℕ) (f : Fault) → whole (function_at (type_at n)) bytes ≡ Err f →
    (x : TypeTerms × TypeTerms) → IsText (FunctionWithin (suc n)) bytes x → ⊥
function_text_refused n bytes f e x s =
    refused (function_at (type_at n)) (FunctionWithin (suc n)) (function_within_again n) bytes f e x s

module _ {A : Type 0} (read : List ℕ → Result (A × List ℕ) Fault) (bytes : List ℕ) where
  pub whole_fails : (e : Stop) → Fails e (read bytes) → Fails e (whole read bytes)
  unfolding whole
  whole_fails e h = Fails-bind e (read bytes) (λ x. end_at x.1 >>= λ u. Ok x.0) h

  -- what was read, where the text ends behind it
  pub whole_reads : {X : Type 0} (means : X → A → Type 0) (x : X) (rest : List ℕ) (y : A × List ℕ) → read bytes ≡ Ok y →
      means x y.0 → rest ≡ y.1 → (r : Result X Stop) → Reads (λ z (u : Unit {0}). z ≡ x) r (end_at rest) →
      Reads means r (whole read bytes)
  unfolding whole
  whole_reads means x rest y e m here (Ok z) h =
      let ends : end_at y.1 ≡ Ok h.0 = subst (λ l. end_at l ≡ Ok h.0) here h.1 in
      (y.0, rw (e, ends) refl, subst (λ w. means w y.0) (sym h.2) m)
  whole_reads means x rest y e m here (Err stop) h =
      let q : (end_at rest >>= λ u. done y.0) ≡ whole read bytes = rw (e, here) refl in
      Fails-from stop _ _ q (Fails-bind stop (end_at rest) (λ u. done y.0) h)

wider : (m n : ℕ) (bytes : List ℕ) (t : TypeTerm) → m ≤ n → IsText (TypeWithin m) bytes t →
    IsText (TypeWithin n) bytes t
wider m n bytes t le s =
    record { tokens = s.tokens; are_tokens = s.are_tokens; spelled = (s.spelled.0, omega (arith, s.spelled.1)) }

-- a text stands for one type at most
pub one_type : (m n : ℕ) (bytes : List ℕ) (t u : TypeTerm) → IsText (TypeWithin m) bytes t →
    IsText (TypeWithin n) bytes u → t ≡ u
one_type m n bytes t u s r =
    only_one (type_at (m + n)) (TypeWithin (m + n)) (type_within_again (m + n)) bytes t u
    (wider m (m + n) bytes t (omega arith) s) (wider n (m + n) bytes u (omega arith) r)
