-- Headers over whole texts.
use Rattle.std.proofs.Common.{◌≡◌, ◌≢◌, ◌⊎◌, inl, ℕ, true≢false, List, Result, Ok, Err, refl, sym, ap, ◌∙◌, Option}
use Rattle.plir_attr_text.specs.declared.fault.Fault.{Fault}
use Rattle.plir_attr_text.specs.declared.fault.Fault.TheVariants.{Memory}
use Rattle.plir_attr_text.specs.declared.fault.ReadErr.{ReadErr}
use Rattle.plir_attr_text.specs.declared.fault.Stop.{Stop}
use Rattle.plir_attr_text.specs.declared.fault.Stop.TheVariants.{OutOfMemory, Crowded, At}
use Rattle.plir_attr_text.specs.TypeGrammar.{IsText}
use Rattle.plir_attr_text.specs.Wholes.{end_at, whole}
use Rattle.plir_attr_text.specs.Steps.{◌>>=◌}
use Rattle.plir_attr_text.specs.Faults.{HasNoPlace, is_of_text}
use Rattle.plir_attr_text.specs.Reading.{Fails, fault_of}
use Rattle.plir_attr_text.specs.laws.StepLaws.{done, Fails-bind, Fails-from}
use Rattle.plir_attr_text.specs.laws.ListsFound.{whole_found}
use Rattle.plir_attr_text.specs.laws.ListsAgain.{refused}
use Rattle.plir_read_own.specs.OwnTerms.{Header}
use Rattle.plir_read_own.specs.OwnGrammar.{HeaderWithin}
use Rattle.plir_read_own.specs.OwnReading.{header_at}
use Rattle.plir_read_own.specs.laws.Found.{header_found}
use Rattle.plir_read_own.proofs.Again.{header_again}

-- a fault that is told is the one that was met
pub told : {X : Type 0} (stop : Stop) (f : Fault) (read : Result X Fault) → f ≡ fault_of stop → Fails stop read →
    f ≢ Memory → read ≡ Err f
told OutOfMemory f read e h n = absurd (n e)
told Crowded f read e h n = absurd h
told (At g left) f read e h n = h.0 ∙ ap (λ k. Err k) (sym e)

-- no place is told where memory was wanting
pub no_place : {X : Type 0} (stop : Stop) (e : ReadErr) (read : Result X Fault) → e.fault ≡ fault_of stop →
    ((stop ≡ OutOfMemory) ⊎ (stop ≡ Crowded) → (e.line ≡ 0) × (e.column ≡ 0)) → Fails stop read → HasNoPlace e
no_place OutOfMemory e read is nowhere h = λ none. nowhere (inl refl)
no_place Crowded e read is nowhere h = absurd h
no_place (At f left) e read is nowhere h = λ none. absurd (true≢false (sym h.1 ∙ ap is_of_text (sym is) ∙ none))

module _ {A : Type 0} (read : List ℕ → Result (A × List ℕ) Fault) (bytes : List ℕ) where
  pub whole_fails : (e : Stop) → Fails e (read bytes) → Fails e (whole read bytes)
  unfolding whole
  whole_fails e h = Fails-bind e (read bytes) (λ x. end_at x.1 >>= λ u. Ok x.0) h

  pub whole_fails_behind : (e : Stop) (x : A) (rest : List ℕ) → read bytes ≡ Ok (x, rest) → Fails e (end_at rest) →
      Fails e (whole read bytes)
  unfolding whole
  whole_fails_behind e x rest p h =
      let q : (end_at rest >>= λ u. done x) ≡ whole read bytes = rw p refl in
      Fails-from e _ _ q (Fails-bind e (end_at rest) (λ u. done x) h)

  pub whole_read : (x : A) (rest : List ℕ) (u : Unit {0}) → read bytes ≡ Ok (x, rest) → end_at rest ≡ Ok u →
      whole read bytes ≡ Ok x
  unfolding whole
  whole_read x rest u p q = rw (p, q) refl

module _ {K : Type 0} (find : List ℕ → Option K) (n : ℕ) (bytes : List ℕ) where
  pub header_text_found : (h : Header K) → whole (header_at find n) bytes ≡ Ok h →
      IsText (HeaderWithin find n) bytes h
  header_text_found h e = whole_found (HeaderWithin find n) 41 (header_at find n) (header_found find n) bytes h e

  pub header_text_refused : (f : Fault) → whole (header_at find n) bytes ≡ Err f → (h : Header K) →
      IsText (HeaderWithin find n) bytes h → ⊥
  header_text_refused f e h s =
      refused (header_at find n) (HeaderWithin find n) (header_again find n) bytes f e h s
