-- Names of results, ids and constants that are read stand there.
use Rattle.std.proofs.Common.{◌≡◌, ℕ, ◌≤◌, ◌++◌, max, Bool, true, nat_eq, List, [], ◌∷◌, length, codes, Result, Ok, Err}
use Rattle.std.proofs.Common.{refl, sym, ap, subst, ◌∙◌, arith, inl, inr}
use Rattle.std.specs.Str.{bytes_eq}
use Rattle.std.proofs.lemmas.Bool.Decides.{Decides-eqb}
use Rattle.std.proofs.lemmas.Slice.Eq.{bytes_eq-Decides}
use Rattle.plir_data.specs.Identifier.{is_identifier}
use Rattle.plir_attr_text.specs.declared.fault.Fault.{Fault}
use Rattle.plir_attr_text.specs.declared.fault.Fault.TheVariants.{NResultsVerifyErr}
use Rattle.plir_attr_text.specs.Steps.{◌>>=◌}
use Rattle.plir_attr_text.specs.Terms.{AttrTerm, TypeTerm, levels, type_levels}
use Rattle.plir_attr_text.specs.Tokens.{Token, word, sign, look, Begins}
use Rattle.plir_attr_text.specs.AttrGrammar.{SpellsIdentifier, Spells, AttrWithin}
use Rattle.plir_attr_text.specs.TypeGrammar.{enclosed, SpellsType}
use Rattle.plir_attr_text.specs.Lists.{sign_at, separator_at}
use Rattle.plir_attr_text.specs.TypeReading.{word_at, type_at}
use Rattle.plir_attr_text.specs.AttrReading.{name_at, attr_at}
use Rattle.plir_attr_text.specs.laws.StepLaws.{chosen, bind_ok, done, ok_is}
use Rattle.plir_attr_text.specs.laws.Begun.{Begins-append, word_found, sign_found, separator, separator_found}
use Rattle.plir_attr_text.specs.laws.ListsFound.{FoundOne, IsSound, Chain, several_found}
use Rattle.plir_attr_text.specs.laws.LeavesFound.{name_found}
use Rattle.plir_attr_text.specs.laws.TypesFound.{type_found}
use Rattle.plir_attr_text.specs.laws.AttrsFound.{attr_found}
use Rattle.plir_read.specs.OpGrammar.{typed_value}
use Rattle.plir_read.specs.OpReading.{op_kind, op_id, names_at, if_name, names_before, start_at, named, value_at}
use Rattle.plir_read.specs.OpReading.{constant_at, first_name}
use Rattle.plir_read.specs.declared.heads.BodyKind.TheVariants.{Module, Func}
use Rattle.plir_read.specs.declared.heads.HeadKind.{HeadKind}
use Rattle.plir_read.specs.declared.heads.HeadKind.TheVariants.{Bodied, Constant, ForwardRef}

-- ---- ids

abbrev pub id_of : HeadKind → List ℕ
id_of (Bodied Module) = codes "builtin.module"
id_of (Bodied Func) = codes "builtin.func"
id_of Constant = codes "builtin.constant"
id_of ForwardRef = codes "builtin.forward_ref"

kind_is : (w : List ℕ) (k : HeadKind) → op_kind w ≡ Ok k → w ≡ id_of k
unfolding op_kind
kind_is w k e =
    elim (chosen (bytes_eq w (codes "builtin.module")) _ _ _ e) [
      | inl h ↦ (bytes_eq-Decides w (codes "builtin.module")).0 h.0 ∙ ap id_of (ok_is (Bodied Module) k h.1)
      | inr e1 ↦ elim (chosen (bytes_eq w (codes "builtin.func")) _ _ _ e1.1) [
        | inl h ↦ (bytes_eq-Decides w (codes "builtin.func")).0 h.0 ∙ ap id_of (ok_is (Bodied Func) k h.1)
        | inr e2 ↦ elim (chosen (bytes_eq w (codes "builtin.constant")) _ _ _ e2.1) [
          | inl h ↦ (bytes_eq-Decides w (codes "builtin.constant")).0 h.0 ∙ ap id_of (ok_is Constant k h.1)
          | inr e3 ↦ elim (chosen (bytes_eq w (codes "builtin.forward_ref")) _ _ _ e3.1) [
            | inl h ↦ (bytes_eq-Decides w (codes "builtin.forward_ref")).0 h.0 ∙ ap id_of (ok_is ForwardRef k h.1)
            | inr h ↦ absurd (let v = h.1 in cc)
          ]
        ]
      ]
    ]

id_found : (bytes : List ℕ) (x : HeadKind × List ℕ) → op_id bytes ≡ Ok x → look bytes ≡ Ok (word (id_of x.0), x.1)
unfolding op_id
id_found bytes x e =
    let a = bind_ok (word_at bytes) (λ w. op_kind w.0 >>= λ k. Ok (k, w.1)) x e in
    let b = bind_ok (op_kind a.0.0) (λ k. Ok (k, a.0.1)) x a.2 in
    let is : look bytes ≡ Ok (word (id_of b.0), a.0.1) = word_found bytes a.0 a.1 ∙
    ap (λ (w : List ℕ). done (word w, a.0.1)) (kind_is a.0.0 b.0 b.1) in
    subst (λ (y : HeadKind × List ℕ). look bytes ≡ Ok (word (id_of y.0), y.1)) (ok_is _ x b.2) is

-- ---- names of results

abbrev pub by_equals : Bool → List Token
by_equals b = sign (separator 61 b) ∷ []

equals_found : (bytes : List ℕ) (s : Bool × List ℕ) → separator_at 61 bytes ≡ Ok s → Begins bytes (by_equals s.0) s.1
equals_found bytes s e = (s.1, separator_found 61 bytes s e, refl)

-- names up to `=`
abbrev pub Names : List (List ℕ) → List Token → Type 0
Names ws ts = Chain SpellsIdentifier by_equals ws ts

names_found : IsSound Names names_at
unfolding names_at
names_found bytes x e =
    several_found SpellsIdentifier by_equals (separator_at 61) equals_found name_at name_found _ bytes x e

-- no name, or names up to `=`
abbrev pub NamesBefore : List (List ℕ) → List Token → Type 0
NamesBefore [] ts = ts ≡ []
NamesBefore (w ∷ ws) ts = Names (w ∷ ws) ts

some_before : (ws : List (List ℕ)) (ts : List Token) → Names ws ts → NamesBefore ws ts
some_before [] ts h = absurd h
some_before (w ∷ ws) ts h = h

before_found : IsSound NamesBefore names_before
unfolding names_before
before_found bytes x e = at (name_at bytes) e
  where
    at : (r : Result (List ℕ × List ℕ) Fault) → if_name bytes r ≡ Ok x → FoundOne NamesBefore bytes x.0 x.1
    at (Ok w) h = let f = names_found bytes x h in
        record { tokens = f.tokens; begins = f.begins; spelled = some_before x.0 f.tokens f.spelled }
    at (Err g) h =
        let none : FoundOne NamesBefore bytes [] bytes = record { tokens = []; begins = refl; spelled = refl } in
        subst (λ (y : List (List ℕ) × List ℕ). FoundOne NamesBefore bytes y.0 y.1) (ok_is ([], bytes) x h) none

-- names of results, and an id behind them
pub record Opened (bytes : List ℕ) (ws : List (List ℕ)) (k : HeadKind) (rest : List ℕ) : Type 0 where
  pub names : List Token
  pub behind : List ℕ
  pub begins : Begins bytes names behind
  pub spelled : NamesBefore ws names
  pub id : look behind ≡ Ok (word (id_of k), rest)

pub start_found : (bytes : List ℕ) (x : (List (List ℕ) × HeadKind) × List ℕ) → start_at bytes ≡ Ok x →
    Opened bytes x.0.0 x.0.1 x.1
unfolding start_at
start_found bytes x e =
    let a = bind_ok (names_before bytes) (λ ns. op_id ns.1 >>= λ k. Ok ((ns.0, k.0), k.1)) x e in
    let b = bind_ok (op_id a.0.1) (λ k. Ok ((a.0.0, k.0), k.1)) x a.2 in
    let f = before_found bytes a.0 a.1 in
    let opened : Opened bytes a.0.0 b.0.0 b.0.1 =
    record { names = f.tokens; behind = a.0.1; begins = f.begins; spelled = f.spelled; id = id_found a.0.1 b.0 b.1 }
    in
    subst (λ (y : (List (List ℕ) × HeadKind) × List ℕ). Opened bytes y.0.0 y.0.1 y.1) (ok_is _ x b.2) opened

pub named_is : (expected found : ℕ) (u : Unit {0}) → named expected found ≡ Ok u → expected ≡ found
unfolding named
named_is expected found u e =
    elim (chosen (nat_eq expected found) (done tt) (Err (NResultsVerifyErr expected found)) (done u) e)
    [ inl h ↦ (Decides-eqb expected found).0 h.0 | inr h ↦ absurd (let v = h.1 in cc) ]

-- no name stands before the id
pub bare_id : (bytes : List ℕ) (ws : List (List ℕ)) (k : HeadKind) (rest : List ℕ) → Opened bytes ws k rest →
    0 ≡ length ws → look bytes ≡ Ok (word (id_of k), rest)
bare_id bytes [] k rest o e =
    let same : bytes ≡ o.behind = subst (λ ts. Begins bytes ts o.behind) o.spelled o.begins in
    subst (λ z. look z ≡ Ok (word (id_of k), rest)) (sym same) o.id
bare_id bytes (w ∷ ws) k rest o e = absurd cc

-- one name and `=` stand before the id
pub record NamedId (w bytes : List ℕ) (k : HeadKind) (rest : List ℕ) : Type 0 where
  pub formed : is_identifier w ≡ true
  pub begins : Begins bytes (word w ∷ sign 61 ∷ word (id_of k) ∷ []) rest

pub named_id : (bytes : List ℕ) (ws : List (List ℕ)) (k : HeadKind) (rest : List ℕ) → Opened bytes ws k rest →
    1 ≡ length ws → NamedId (first_name ws) bytes k rest
named_id bytes [] k rest o e = absurd cc
named_id bytes (w ∷ []) k rest o e =
    let h = o.spelled in
    let is : o.names ≡ word w ∷ sign 61 ∷ [] = h.4 ∙ ap (λ (ts : List Token). ts ++ h.1) h.2.1 ∙
    ap (λ (ts : List Token). word w ∷ ts) h.3 in
    record {
      formed = h.2.0;
      begins =
          Begins-append (word w ∷ sign 61 ∷ []) (word (id_of k) ∷ []) bytes o.behind rest
          (subst (λ ts. Begins bytes ts o.behind) is o.begins) (rest, o.id, refl);
    }
named_id bytes (v ∷ w ∷ ws) k rest o e = absurd (omega (arith, e))

-- ---- constants

-- a value in angle brackets, with at most n levels in it
abbrev pub ValueWithin : ℕ → AttrTerm → List Token → Type 0
ValueWithin n a ts = (attr : List Token) × AttrWithin n a attr × (ts ≡ enclosed 60 attr 62)

pub value_found : (n : ℕ) → IsSound (ValueWithin n) (value_at n)
unfolding value_at
value_found n bytes x e =
    let a = bind_ok (sign_at 60 bytes) (λ start. attr_at n start >>= λ y. sign_at 62 y.1 >>= λ end. Ok (y.0, end)) x e
    in
    let b = bind_ok (attr_at n a.0) (λ y. sign_at 62 y.1 >>= λ end. Ok (y.0, end)) x a.2 in
    let d = bind_ok (sign_at 62 b.0.1) (λ end. Ok (b.0.0, end)) x b.2 in
    let f = attr_found n a.0 b.0 b.1 in
    let found : FoundOne (ValueWithin n) bytes b.0.0 d.0 = record {
      tokens = enclosed 60 f.tokens 62;
      begins = (
        a.0,
        sign_found 60 bytes a.0 a.1,
        Begins-append f.tokens (sign 62 ∷ []) a.0 b.0.1 d.0 f.begins (d.0, sign_found 62 b.0.1 d.0 d.1, refl),
      );
      spelled = (f.tokens, f.spelled, refl);
    } in
    subst (λ (y : AttrTerm × List ℕ). FoundOne (ValueWithin n) bytes y.0 y.1) {x = (b.0.0, d.0)}
    (ok_is (b.0.0, d.0) x d.2) found

-- what stands behind the id of a constant, with at most n levels in it
pub record ConstantWithin (n : ℕ) (c : AttrTerm × TypeTerm) (ts : List Token) : Type 0 where
  pub attr : List Token
  pub type : List Token
  pub value : Spells c.0 attr
  pub typed : SpellsType c.1 type
  pub within : max (levels c.0) (type_levels c.1) ≤ n
  pub tokens : ts ≡ typed_value attr type

pub constant_found : (n : ℕ) → IsSound (ConstantWithin n) (constant_at n)
unfolding constant_at
constant_found n bytes x e =
    let a = bind_ok (value_at n bytes) (λ y. sign_at 58 y.1 >>= λ colon. type_at n colon >>= λ t. Ok ((y.0, t.0), t.1))
    x e in
    let b = bind_ok (sign_at 58 a.0.1) (λ colon. type_at n colon >>= λ t. Ok ((a.0.0, t.0), t.1)) x a.2 in
    let d = bind_ok (type_at n b.0) (λ t. Ok ((a.0.0, t.0), t.1)) x b.2 in
    let v = value_found n bytes a.0 a.1 in
    let t = type_found n b.0 d.0 d.1 in
    let found : FoundOne (ConstantWithin n) bytes (a.0.0, d.0.0) d.0.1 = record {
      tokens = v.tokens ++ sign 58 ∷ t.tokens;
      begins = Begins-append v.tokens (sign 58 ∷ t.tokens) bytes a.0.1 d.0.1 v.begins
          (b.0, sign_found 58 a.0.1 b.0 b.1, t.begins);
      spelled = record {
        attr = v.spelled.0;
        type = t.tokens;
        value = v.spelled.1.0;
        typed = t.spelled.0;
        within = omega (arith, v.spelled.1.1, t.spelled.1);
        tokens = ap (λ (ts : List Token). ts ++ sign 58 ∷ t.tokens) v.spelled.2;
      };
    } in
    subst (λ (y : (AttrTerm × TypeTerm) × List ℕ). FoundOne (ConstantWithin n) bytes y.0 y.1) (ok_is _ x d.2) found
