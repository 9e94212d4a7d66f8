-- Headers that are read stand there.
use Rattle.std.proofs.Common.{◌≡◌, ℕ, ◌≤◌, ◌++◌, nat_eq, List, ◌∷◌, length, Ok, Err, Option}
use Rattle.std.proofs.Common.{refl, ap, subst, ◌∙◌, arith, inl, inr, append_assoc}
use Rattle.std.proofs.lemmas.Bool.Decides.{Decides-eqb}
use Rattle.plir_attr_text.specs.declared.fault.Fault.TheVariants.{Unexpected, NResultsVerifyErr}
use Rattle.plir_attr_text.specs.Steps.{◌>>=◌}
use Rattle.plir_attr_text.specs.Terms.{EntryTerms, entries_levels}
use Rattle.plir_attr_text.specs.Tokens.{Token, sign}
use Rattle.plir_attr_text.specs.AttrGrammar.{SpellsIdentifier, SpellsSeveral, SpellsEntries}
use Rattle.plir_attr_text.specs.TypeGrammar.{enclosed}
use Rattle.plir_attr_text.specs.Lists.{sign_at}
use Rattle.plir_attr_text.specs.TypeReading.{function_at, type_at}
use Rattle.plir_attr_text.specs.AttrReading.{name_at}
use Rattle.plir_attr_text.specs.laws.StepLaws.{chosen, bind_ok, done, ok_is}
use Rattle.plir_attr_text.specs.laws.Begun.{Begins-append, sign_found}
use Rattle.plir_attr_text.specs.laws.ListsFound.{FoundOne, IsSound, items_found}
use Rattle.plir_attr_text.specs.laws.LeavesFound.{name_found}
use Rattle.plir_attr_text.specs.laws.TypesFound.{function_found, type_found}
use Rattle.plir_read_own.specs.OwnTerms.{Uses, Signature, num_types, Header, signature_levels}
use Rattle.plir_read_own.specs.OwnGrammar.{SpellsLabel, SpellsUses, SpellsSignature, HeaderWithin}
use Rattle.plir_read_own.specs.OwnReading.{label_at, listed_at, opening_of, closing_of, list_at, uses_at, signature_at}
use Rattle.plir_read_own.specs.OwnReading.{entries_at, typed_at, as_many_types, as_many_names, counted, opening_at}
use Rattle.plir_read_own.specs.OwnReading.{header_at}
use Rattle.plir_read_own.specs.declared.uses.NameList.{NameList}
use Rattle.plir_read_own.specs.declared.uses.NameList.TheVariants.{Operands, Successors}
use Rattle.plir_read_own.specs.laws.Dictionaries.{entries_found}
use Rattle.plir_read_own.specs.laws.Starts.{opening_found}

-- ---- operands and successors

label_found : IsSound SpellsLabel label_at
unfolding label_at
label_found bytes x e =
    let a = bind_ok (sign_at 94 bytes) (λ start. name_at start) x e in
    let f = name_found a.0 x a.2 in
    record {
      tokens = sign 94 ∷ f.tokens;
      begins = (a.0, sign_found 94 bytes a.0 a.1, f.begins);
      spelled = (f.spelled.0, ap (λ (ts : List Token). sign 94 ∷ ts) f.spelled.1);
    }

-- a name of a list
abbrev pub SpellsListed : NameList → List ℕ → List Token → Type 0
SpellsListed Operands w ts = SpellsIdentifier w ts
SpellsListed Successors w ts = SpellsLabel w ts

pub listed_found : (list : NameList) → IsSound (SpellsListed list) (listed_at list)
listed_found Operands bytes x e = name_found bytes x e
listed_found Successors bytes x e = label_found bytes x e

-- names of a list in its brackets
abbrev SpellsList : NameList → List (List ℕ) → List Token → Type 0
SpellsList list ws ts = (inner : List Token) × SpellsSeveral (SpellsListed list) ws inner ×
    (ts ≡ enclosed (opening_of list) inner (closing_of list))

list_found : (list : NameList) → IsSound (SpellsList list) (list_at list)
unfolding list_at
list_found list bytes x e =
    let f = items_found (SpellsListed list) (closing_of list) (listed_at list) (listed_found list) (opening_of list)
    bytes x e in
    record {
      tokens = enclosed (opening_of list) f.tokens (closing_of list);
      begins = f.begins;
      spelled = (f.tokens, f.spelled, refl);
    }

pub uses_found : IsSound SpellsUses uses_at
unfolding uses_at
uses_found bytes x e =
    let a = bind_ok (list_at Operands bytes) (λ os. list_at Successors os.1 >>=
    λ ss. Ok (record { operands = os.0; successors = ss.0 }, ss.1)) x e in
    let b = bind_ok (list_at Successors a.0.1) (λ ss. Ok (record { operands = a.0.0; successors = ss.0 }, ss.1)) x a.2
    in
    let f = list_found Operands bytes a.0 a.1 in
    let g = list_found Successors a.0.1 b.0 b.1 in
    let uses : Uses = record { operands = a.0.0; successors = b.0.0 } in
    let found : FoundOne SpellsUses bytes uses b.0.1 = record {
      tokens = f.tokens ++ g.tokens;
      begins = Begins-append f.tokens g.tokens bytes a.0.1 b.0.1 f.begins g.begins;
      spelled = (
        f.spelled.0,
        g.spelled.0,
        f.spelled.1,
        g.spelled.1,
        ap (λ (ts : List Token). ts ++ g.tokens) f.spelled.2 ∙
            ap (λ (ts : List Token). enclosed 40 f.spelled.0 41 ++ ts) g.spelled.2,
      );
    } in
    subst (λ (y : Uses × List ℕ). FoundOne SpellsUses bytes y.0 y.1) (ok_is _ x b.2) found

-- ---- attributes and types

abbrev SignatureWithin : ℕ → Signature → List Token → Type 0
SignatureWithin n t ts = SpellsSignature t ts × (signature_levels t ≤ n)

signature_found : (n : ℕ) → IsSound (SignatureWithin n) (signature_at n)
unfolding signature_at
signature_found n bytes x e =
    let a = bind_ok (function_at (type_at n) bytes) (λ t. Ok (
      record { operand_types = t.0.0; result_types = t.0.1 },
      t.1,
    )) x e in
    let f = function_found n (type_at n) (type_found n) bytes a.0 a.1 in
    let t : Signature = record { operand_types = a.0.0.0; result_types = a.0.0.1 } in
    let found : FoundOne (SignatureWithin n) bytes t a.0.1 = record {
      tokens = f.tokens;
      begins = f.begins;
      spelled = (f.spelled.0, omega (arith, f.spelled.1, f.spelled.2));
    } in
    subst (λ (y : Signature × List ℕ). FoundOne (SignatureWithin n) bytes y.0 y.1) (ok_is _ x a.2) found

-- entries in brackets, a colon, and types
pub record TypedWithin (n : ℕ) (x : EntryTerms × Signature) (ts : List Token) : Type 0 where
  pub entries : List Token
  pub signature : List Token
  pub are_entries : SpellsEntries x.0 entries
  pub is_signature : SpellsSignature x.1 signature
  pub entries_within : entries_levels x.0 ≤ n
  pub signature_within : signature_levels x.1 ≤ n
  pub tokens : ts ≡ enclosed 91 entries 93 ++ sign 58 ∷ signature

typed_found : (n : ℕ) → IsSound (TypedWithin n) (typed_at n)
unfolding typed_at
typed_found n bytes x e =
    let a = bind_ok (entries_at n bytes) (λ es. sign_at 58 es.1 >>= λ colon. signature_at n colon >>=
    λ t. Ok ((es.0, t.0), t.1)) x e in
    let b = bind_ok (sign_at 58 a.0.1) (λ colon. signature_at n colon >>= λ t. Ok ((a.0.0, t.0), t.1)) x a.2 in
    let d = bind_ok (signature_at n b.0) (λ t. Ok ((a.0.0, t.0), t.1)) x b.2 in
    let f = entries_found n bytes a.0 a.1 in
    let g = signature_found n b.0 d.0 d.1 in
    let found : FoundOne (TypedWithin n) bytes (a.0.0, d.0.0) d.0.1 = record {
      tokens = f.tokens ++ sign 58 ∷ g.tokens;
      begins = Begins-append f.tokens (sign 58 ∷ g.tokens) bytes a.0.1 d.0.1 f.begins
          (b.0, sign_found 58 a.0.1 b.0 b.1, g.begins);
      spelled = record {
        entries = f.spelled.0;
        signature = g.tokens;
        are_entries = f.spelled.1;
        is_signature = g.spelled.0;
        entries_within = f.spelled.2;
        signature_within = g.spelled.1;
        tokens = ap (λ (ts : List Token). ts ++ sign 58 ∷ g.tokens) f.spelled.3;
      };
    } in
    subst (λ (y : (EntryTerms × Signature) × List ℕ). FoundOne (TypedWithin n) bytes y.0 y.1) (ok_is _ x d.2) found

-- ---- headers

types_are : (m n : ℕ) (u : Unit {0}) → as_many_types m n ≡ Ok u → m ≡ n
unfolding as_many_types
types_are m n u e = elim (chosen (nat_eq m n) (done tt) (Err Unexpected) (done u) e)
    [ inl h ↦ (Decides-eqb m n).0 h.0 | inr h ↦ absurd (let v = h.1 in cc) ]

names_are : (m n : ℕ) (u : Unit {0}) → as_many_names m n ≡ Ok u → m ≡ n
unfolding as_many_names
names_are m n u e = elim (chosen (nat_eq m n) (done tt) (Err (NResultsVerifyErr m n)) (done u) e)
    [ inl h ↦ (Decides-eqb m n).0 h.0 | inr h ↦ absurd (let v = h.1 in cc) ]

counted_are : (names : List (List ℕ)) (u : Uses) (t : Signature) (v : Unit {0}) → counted names u t ≡ Ok v →
    (length u.operands ≡ num_types t.operand_types) × (num_types t.result_types ≡ length names)
unfolding counted
counted_are names u t v e =
    let a = bind_ok (as_many_types (length u.operands) (num_types t.operand_types))
    (λ w. as_many_names (num_types t.result_types) (length names)) v e in
    (types_are _ _ a.0 a.1, names_are _ _ v a.2)

module _ {K : Type 0} (find : List ℕ → Option K) where
  pub header_found : (n : ℕ) → IsSound (HeaderWithin find n) (header_at find n)
  unfolding header_at
  header_found n bytes x e =
      let a = bind_ok (opening_at find bytes) (λ o. uses_at o.1 >>= λ u. typed_at n u.1 >>=
      λ t. counted o.0.0 u.0 t.0.1 >>= λ v. Ok (
        record { names = o.0.0; kind = o.0.1; uses = u.0; entries = t.0.0; signature = t.0.1 },
        t.1,
      )) x e in
      let b = bind_ok (uses_at a.0.1) (λ u. typed_at n u.1 >>= λ t. counted a.0.0.0 u.0 t.0.1 >>= λ v. Ok (
        record { names = a.0.0.0; kind = a.0.0.1; uses = u.0; entries = t.0.0; signature = t.0.1 },
        t.1,
      )) x a.2 in
      let d = bind_ok (typed_at n b.0.1) (λ t. counted a.0.0.0 b.0.0 t.0.1 >>= λ v. Ok (
        record { names = a.0.0.0; kind = a.0.0.1; uses = b.0.0; entries = t.0.0; signature = t.0.1 },
        t.1,
      )) x b.2 in
      let h : Header K = record
      { names = a.0.0.0; kind = a.0.0.1; uses = b.0.0; entries = d.0.0.0; signature = d.0.0.1 } in
      let q = bind_ok (counted a.0.0.0 b.0.0 d.0.0.1) (λ v. Ok (h, d.0.1)) x d.2 in
      let c = counted_are a.0.0.0 b.0.0 d.0.0.1 q.0 q.1 in
      let o = opening_found find bytes a.0 a.1 in
      let u = uses_found a.0.1 b.0 b.1 in
      let t = typed_found n b.0.1 d.0 d.1 in
      let found : FoundOne (HeaderWithin find n) bytes h d.0.1 = record {
        tokens = o.tokens ++ (u.tokens ++ t.tokens);
        begins = Begins-append o.tokens (u.tokens ++ t.tokens) bytes a.0.1 d.0.1 o.begins
            (Begins-append u.tokens t.tokens a.0.1 b.0.1 d.0.1 u.begins t.begins);
        spelled = (
          record {
            names = o.spelled.0;
            id = o.spelled.1;
            uses = u.tokens;
            entries = t.spelled.entries;
            signature = t.spelled.signature;
            are_names = o.spelled.2;
            is_id = o.spelled.3;
            are_uses = u.spelled;
            are_entries = t.spelled.are_entries;
            is_signature = t.spelled.is_signature;
            typed_operands = c.0;
            typed_results = c.1;
            tokens = ap (λ (ts : List Token). ts ++ (u.tokens ++ t.tokens)) o.spelled.4 ∙
                append_assoc o.spelled.0 o.spelled.1 (u.tokens ++ t.tokens) ∙
                ap (λ (ts : List Token). o.spelled.0 ++ (o.spelled.1 ++ (u.tokens ++ ts))) t.spelled.tokens;
          },
          omega (arith, t.spelled.entries_within, t.spelled.signature_within),
        );
      } in
      subst (λ (y : Header K × List ℕ). FoundOne (HeaderWithin find n) bytes y.0 y.1) (ok_is _ x q.2) found
