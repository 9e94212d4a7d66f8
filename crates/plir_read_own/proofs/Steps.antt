-- What the parts of a header, as they are read, make of the whole.
use Rattle.std.proofs.Common.{◌≡◌, ℕ, List, Ok, refl, Option}
use Rattle.plir_attr_text.specs.declared.fault.Stop.{Stop}
use Rattle.plir_attr_text.specs.Reading.{Fails}
use Rattle.plir_attr_text.specs.Steps.{◌>>=◌}
use Rattle.plir_attr_text.specs.Terms.{AttrTerm, EntryTerms, entries_of, TypeTerms}
use Rattle.plir_attr_text.specs.Lists.{sign_at, items_at}
use Rattle.plir_attr_text.specs.TypeReading.{function_at, type_at}
use Rattle.plir_attr_text.specs.AttrReading.{entry_at, attr_at}
use Rattle.plir_attr_text.specs.laws.StepLaws.{done, Fails-bind, Fails-from}
use Rattle.plir_read_own.specs.OwnTerms.{Uses, Signature, Header}
use Rattle.plir_read_own.specs.OwnReading.{opening_at, uses_at, entries_at, signature_at, typed_at, counted, header_at}

pub signature_is : (n : ℕ) (bytes rest : List ℕ) (os rs : TypeTerms) →
    function_at (type_at n) bytes ≡ Ok ((os, rs), rest) →
    signature_at n bytes ≡ Ok (record { operand_types = os; result_types = rs }, rest)
unfolding signature_at
signature_is n bytes rest os rs p = rw p refl

pub entries_are : (n : ℕ) (bytes rest : List ℕ) (es : List (List ℕ × AttrTerm)) →
    items_at 91 93 (entry_at (attr_at n)) bytes ≡ Ok (es, rest) → entries_at n bytes ≡ Ok (entries_of es, rest)
unfolding entries_at
entries_are n bytes rest es p = rw p refl

pub typed_is : (n : ℕ) (bytes rest colon end : List ℕ) (es : EntryTerms) (t : Signature) →
    entries_at n bytes ≡ Ok (es, rest) → sign_at 58 rest ≡ Ok colon → signature_at n colon ≡ Ok (t, end) →
    typed_at n bytes ≡ Ok ((es, t), end)
unfolding typed_at
typed_is n bytes rest colon end es t p q r = rw (p, q, r) refl

module _ {K : Type 0} (find : List ℕ → Option K) where
  pub header_is : (n : ℕ) (bytes rest behind end : List ℕ) (names : List (List ℕ)) (kind : K) (u : Uses)
      (es : EntryTerms) (t : Signature) → opening_at find bytes ≡ Ok ((names, kind), rest) →
      uses_at rest ≡ Ok (u, behind) → typed_at n behind ≡ Ok ((es, t), end) → counted names u t ≡ Ok tt →
      header_at find n bytes ≡ Ok (
        record { names = names; kind = kind; uses = u; entries = es; signature = t },
        end,
      )
  unfolding header_at
  header_is n bytes rest behind end names kind u es t p q r s = rw (p, q, r, s) refl

  -- the fault of numbers that are not right
  pub header_fails : (n : ℕ) (bytes rest behind end : List ℕ) (names : List (List ℕ)) (kind : K) (u : Uses)
      (es : EntryTerms) (t : Signature) (e : Stop) → opening_at find bytes ≡ Ok ((names, kind), rest) →
      uses_at rest ≡ Ok (u, behind) → typed_at n behind ≡ Ok ((es, t), end) → Fails e (counted names u t) →
      Fails e (header_at find n bytes)
  unfolding header_at
  header_fails n bytes rest behind end names kind u es t e p q r h =
      let h_is : Header K = record { names = names; kind = kind; uses = u; entries = es; signature = t } in
      let whole : (counted names u t >>= λ v. done (h_is, end)) ≡ header_at find n bytes = rw (p, q, r) refl in
      Fails-from e _ _ whole (Fails-bind e (counted names u t) (λ v. done (h_is, end)) h)
