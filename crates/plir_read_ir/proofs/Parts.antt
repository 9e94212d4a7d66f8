-- What stands behind the id of an own operation, by its parts.
use Rattle.std.proofs.Common.{◌≡◌, ℕ, nat_eq, List, length, Ok, Err, refl, subst, inl, inr}
use Rattle.std.proofs.lemmas.Bool.Decides.{Decides-eqb}
use Rattle.plir_attr_text.specs.declared.fault.Stop.{Stop}
use Rattle.plir_attr_text.specs.declared.fault.Fault.TheVariants.{Unexpected, NResultsVerifyErr}
use Rattle.plir_attr_text.specs.Reading.{Fails}
use Rattle.plir_attr_text.specs.Steps.{◌>>=◌}
use Rattle.plir_attr_text.specs.Terms.{EntryTerms}
use Rattle.plir_attr_text.specs.laws.Ends.{IsEnd, end_on, found_end}
use Rattle.plir_attr_text.specs.laws.StepLaws.{bind_ok, chosen, done, ok_is, Fails-bind, Fails-from}
use Rattle.plir_read_own.specs.OwnGrammar.{SpellsUses}
use Rattle.plir_read_own.specs.OwnReading.{as_many_names, as_many_types, entries_at, signature_at, typed_at}
use Rattle.plir_read_own.specs.OwnReading.{uses_at}
use Rattle.plir_attr_text.specs.Lists.{sign_at}
use Rattle.plir_attr_text.specs.TypeReading.{function_at, type_at}
use Rattle.plir_attr_text.specs.laws.TypesFound.{function_found, type_found}
use Rattle.plir_read_own.specs.OwnTerms.{Uses, Signature, num_types}
use Rattle.plir_read_own.specs.laws.Found.{uses_found}
use Rattle.plir_read_own.specs.laws.Parts.{signature_end}
use Rattle.plir_read_ir.specs.IrReading.{counted, parts_at}

pub uses_behind : (bytes rest : List ℕ) (u : Uses) → uses_at bytes ≡ Ok (u, rest) → IsEnd bytes rest
uses_behind bytes rest u p = found_end SpellsUses uses_at uses_found bytes u rest p

pub parts_is : (n names : ℕ) (bytes rest end : List ℕ) (u : Uses) (es : EntryTerms) (t : Signature) →
    uses_at bytes ≡ Ok (u, rest) → typed_at n rest ≡ Ok ((es, t), end) → counted names u t ≡ Ok tt →
    parts_at n names bytes ≡ Ok ((u, (es, t)), end)
unfolding parts_at
parts_is n names bytes rest end u es t p q r = rw (p, q, r) refl

-- the fault of numbers that are not right
pub parts_fail : (n names : ℕ) (bytes rest end : List ℕ) (u : Uses) (es : EntryTerms) (t : Signature) (e : Stop) →
    uses_at bytes ≡ Ok (u, rest) → typed_at n rest ≡ Ok ((es, t), end) → Fails e (counted names u t) →
    Fails e (parts_at n names bytes)
unfolding parts_at
parts_fail n names bytes rest end u es t e p q h =
    let part : Uses × (EntryTerms × Signature) = (u, (es, t)) in
    let whole : (counted names u t >>= λ v. done (part, end)) ≡ parts_at n names bytes = rw (p, q) refl in
    Fails-from e _ _ whole (Fails-bind e (counted names u t) (λ v. done (part, end)) h)

types_are : (m n : ℕ) (u : Unit {0}) → as_many_types m n ≡ Ok u → m ≡ n
unfolding as_many_types
types_are m n u e = elim (chosen (nat_eq m n) (done tt) (Err Unexpected) (done u) e)
    [ inl h ↦ (Decides-eqb m n).0 h.0 | inr h ↦ absurd (let v = h.1 in cc) ]

names_are : (m n : ℕ) (u : Unit {0}) → as_many_names m n ≡ Ok u → m ≡ n
unfolding as_many_names
names_are m n u e = elim (chosen (nat_eq m n) (done tt) (Err (NResultsVerifyErr m n)) (done u) e)
    [ inl h ↦ (Decides-eqb m n).0 h.0 | inr h ↦ absurd (let v = h.1 in cc) ]

counted_are : (names : ℕ) (u : Uses) (t : Signature) (v : Unit {0}) → counted names u t ≡ Ok v →
    (length u.operands ≡ num_types t.operand_types) × (num_types t.result_types ≡ names)
unfolding counted
counted_are names u t v e =
    let a = bind_ok (as_many_types (length u.operands) (num_types t.operand_types))
    (λ w. as_many_names (num_types t.result_types) names) v e in (
      types_are (length u.operands) (num_types t.operand_types) a.0 a.1,
      names_are (num_types t.result_types) names v a.2,
    )

signature_left : (n : ℕ) (bytes : List ℕ) (x : Signature × List ℕ) → signature_at n bytes ≡ Ok x → IsEnd bytes x.1
unfolding signature_at
signature_left n bytes x e =
    let a = bind_ok (function_at (type_at n) bytes)
    (λ t. done (let s : Signature = record { operand_types = t.0.0; result_types = t.0.1 } in s, t.1)) x e in
    let f = function_found n (type_at n) (type_found n) bytes a.0 a.1 in
    let t : Signature = record { operand_types = a.0.0.0; result_types = a.0.0.1 } in
    subst (λ (z : Signature × List ℕ). IsEnd bytes z.1) (ok_is (t, a.0.1) x a.2) (f.tokens, f.begins)

typed_left : (n : ℕ) (bytes : List ℕ) (x : (EntryTerms × Signature) × List ℕ) → typed_at n bytes ≡ Ok x →
    IsEnd bytes x.1
unfolding typed_at
typed_left n bytes x e =
    let a = bind_ok (entries_at n bytes) (λ es. sign_at 58 es.1 >>= λ colon. signature_at n colon >>=
    λ t. Ok ((es.0, t.0), t.1)) x e in
    let b = bind_ok (sign_at 58 a.0.1) (λ colon. signature_at n colon >>= λ t. Ok ((a.0.0, t.0), t.1)) x a.2 in
    let d = bind_ok (signature_at n b.0) (λ t. done ((a.0.0, t.0), t.1)) x b.2 in
    subst (λ (z : (EntryTerms × Signature) × List ℕ). IsEnd bytes z.1) (ok_is ((a.0.0, d.0.0), d.0.1) x d.2)
    (end_on bytes b.0 d.0.1 (signature_end n bytes a.0.1 b.0 a.0.0 a.1 b.1) (signature_left n b.0 d.0 d.1))

-- what is read in parts: its numbers are right, and an end of the text is left
pub record ReadInParts (names : ℕ) (bytes rest : List ℕ) (p : Uses × (EntryTerms × Signature)) : Type 0 where
  pub operands : length p.0.operands ≡ num_types p.1.1.operand_types
  pub results : num_types p.1.1.result_types ≡ names
  pub behind : IsEnd bytes rest

pub parts_read : (n names : ℕ) (bytes rest : List ℕ) (p : Uses × (EntryTerms × Signature)) →
    parts_at n names bytes ≡ Ok (p, rest) → ReadInParts names bytes rest p
unfolding parts_at
parts_read n names bytes rest p e =
    let a = bind_ok (uses_at bytes) (λ u. typed_at n u.1 >>= λ t. counted names u.0 t.0.1 >>=
    λ v. Ok ((u.0, t.0), t.1)) (p, rest) e in
    let b = bind_ok (typed_at n a.0.1) (λ t. counted names a.0.0 t.0.1 >>= λ v. Ok ((a.0.0, t.0), t.1)) (p, rest) a.2 in
    let d = bind_ok (counted names a.0.0 b.0.0.1) (λ v. done ((a.0.0, b.0.0), b.0.1)) (p, rest) b.2 in
    let same = ok_is ((a.0.0, b.0.0), b.0.1) (p, rest) d.2 in
    let counts = counted_are names a.0.0 b.0.0.1 d.0 d.1 in
    let whole : ReadInParts names bytes b.0.1 (a.0.0, b.0.0) = record {
      operands = counts.0;
      results = counts.1;
      behind = end_on bytes a.0.1 b.0.1 (uses_behind bytes a.0.1 a.0.0 a.1)
          (typed_left n a.0.1 b.0 b.1);
    } in
    subst (λ (z : (Uses × (EntryTerms × Signature)) × List ℕ). ReadInParts names bytes z.1 z.0) same whole
