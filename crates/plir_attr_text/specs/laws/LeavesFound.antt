-- The parts of attributes that hold no other, as they are read, stand there.
use Rattle.std.proofs.Common.{◌≡◌, ℕ, ◌<◌, ◌≤◌, ◌-◌, ◌^◌, Bool, true, false, cond, nat_lt, nat_le, List, [], ◌∷◌, ◌++◌}
use Rattle.std.proofs.Common.{length, Option, Some, None, Result, Ok, Err, codes, refl, sym, ap, subst, ◌∙◌, arith, inl}
use Rattle.std.proofs.Common.{inr}
use Rattle.std.proofs.{lemmas.Bool.leb-true, lemmas.Bool.Decides.Decides-ltb, lemmas.Slice.Eq.bytes_eq-Decides}
use Rattle.std.proofs.{lemmas.Str.IsUtf8-from_is_utf8}
use Rattle.std.specs.Str.{bytes_eq, is_utf8}
use Rattle.plir_data.specs.{Identifier.is_identifier, Integers.is_width, declared.types.Signedness.Signedness}
use Rattle.plir_attr_text.specs.declared.fault.Fault.TheVariants.{Unexpected}
use Rattle.plir_attr_text.specs.Tokens.{Token, word, digits, signed, quoted, arrow, sign, look, Takes, Begins}
use Rattle.plir_attr_text.specs.AttrGrammar.{truth, SpellsLiteral, IsBits, SpellsIdentifier, SpellsString, SpellsTruth}
use Rattle.plir_attr_text.specs.AttrGrammar.{SpellsValue, SpellsSize, SpellsName}
use Rattle.plir_attr_text.specs.AttrReading.{name_at, bool_at, text_at, as_size, size_at, unless_unset, given_name_at}
use Rattle.plir_attr_text.specs.AttrReading.{as_literal, literal_at, bits_of, value_of, value_at}
use Rattle.plir_attr_text.specs.laws.StepLaws.{chosen, bind_ok, done, ok_is}
use Rattle.plir_attr_text.specs.laws.Begun.{Begins-append, Begins-length, word_found, sign_found, past_sign_found}
use Rattle.plir_attr_text.specs.{declared.fault.Fault.Fault, Steps.◌>>=◌, Strings.string_at, Lists.past_sign}
use Rattle.plir_attr_text.specs.{Lists.sign_at, TypeReading.word_at, TypeReading.integer_at, Levels.if_level}
use Rattle.plir_attr_text.specs.{Levels.level_at, laws.Quoted.quoted-found, laws.ListsFound.FoundOne}
use Rattle.plir_attr_text.specs.{laws.ListsFound.IsSound, laws.TypesFound.integer_found, laws.TypesAgain.parts}

-- what is found takes a byte or more, if some token stands for it
pub found-shorter : {A : Type 0} (E : A → List Token → Type 0) (read : List ℕ → Result (A × List ℕ) Fault) →
    IsSound E read → ((x : A) (ts : List Token) → E x ts → 1 ≤ length ts) → (bytes : List ℕ) (x : A × List ℕ) →
    read bytes ≡ Ok x → length x.1 < length bytes
found-shorter E read sound some bytes x e = let f = sound bytes x e in
    omega (arith, Begins-length f.tokens bytes x.1 f.begins, some x.0 f.tokens f.spelled)

-- ---- sizes

as_size_is : (t : Token) (rest : List ℕ) (x : ℕ × List ℕ) → as_size t rest ≡ Ok x →
    (t ≡ digits x.0) × (rest ≡ x.1) × (x.0 < 2 ^ 32)
as_size_is (digits n) rest x e =
    elim (chosen (nat_lt n (2 ^ 32)) _ _ _ e) [
      | inl h ↦ subst (λ (y : ℕ × List ℕ). (digits n ≡ digits y.0) × (rest ≡ y.1) × (y.0 < 2 ^ 32)) (ok_is (
        n,
        rest,
      ) x h.1) (refl, refl, (Decides-ltb n (2 ^ 32)).0 h.0)
      | inr h ↦ absurd (let k = h.1 in cc)
    ]
as_size_is (word w) rest x e = absurd cc
as_size_is (signed s n) rest x e = absurd cc
as_size_is (quoted q) rest x e = absurd cc
as_size_is arrow rest x e = absurd cc
as_size_is (sign b) rest x e = absurd cc

pub size_found : IsSound SpellsSize size_at
unfolding size_at
size_found bytes x e =
    let a = bind_ok (look bytes) (λ t. as_size t.0 t.1) x e in
    let b = as_size_is a.0.0 a.0.1 x a.2 in
    record {
      tokens = digits x.0 ∷ [];
      begins = (
        x.1,
        a.1 ∙ ap (λ (t : Token). done (t, a.0.1)) b.0 ∙
            ap (λ (r : List ℕ). done (digits x.0, r)) b.1,
        refl,
      );
      spelled = (b.2, refl);
    }

size_some : (n : ℕ) (ts : List Token) → SpellsSize n ts → 1 ≤ length ts
size_some n ts h = rw (h.1) (omega arith)

pub size_at-shorter : (bytes : List ℕ) (x : ℕ × List ℕ) → size_at bytes ≡ Ok x → length x.1 < length bytes
size_at-shorter bytes x e = found-shorter SpellsSize size_at size_found size_some bytes x e

-- ---- names

pub name_found : IsSound SpellsIdentifier name_at
unfolding name_at
name_found bytes x e =
    let a = bind_ok (word_at bytes) (λ w. cond (is_identifier w.0) (Ok (w.0, w.1)) (Err Unexpected)) x e in
    elim (chosen (is_identifier a.0.0) _ _ _ a.2) [
      | inl h ↦
          let found : FoundOne SpellsIdentifier bytes a.0.0 a.0.1 =
          record {
            tokens = word a.0.0 ∷ [];
            begins = (a.0.1, word_found bytes a.0 a.1, refl);
            spelled = (
              h.0,
              refl,
            );
          } in
          subst (λ (y : List ℕ × List ℕ). FoundOne SpellsIdentifier bytes y.0 y.1) (ok_is _ x h.1) found
      | inr h ↦ absurd (let k = h.1 in cc)
    ]

pub given_name_found : IsSound SpellsName given_name_at
unfolding given_name_at
given_name_found bytes x e = at (past_sign 63 bytes) refl e
  where
    at : (o : Option (List ℕ)) → past_sign 63 bytes ≡ o → unless_unset o (name_at bytes >>= λ w. Ok (Some w.0, w.1)) ≡
        Ok x → FoundOne SpellsName bytes x.0 x.1
    at (Some rest) p h =
        let found : FoundOne SpellsName bytes None rest =
        record { tokens = sign 63 ∷ []; begins = (rest, past_sign_found 63 bytes rest p, refl); spelled = refl } in
        subst (λ (y : Option (List ℕ) × List ℕ). FoundOne SpellsName bytes y.0 y.1) (ok_is (None, rest) x h) found
    at None p h =
        let a = bind_ok (name_at bytes) (λ w. Ok (Some w.0, w.1)) x h in
        let f = name_found bytes a.0 a.1 in
        let found : FoundOne SpellsName bytes (Some a.0.0) a.0.1 =
        record { tokens = f.tokens; begins = f.begins; spelled = f.spelled } in
        subst (λ (y : Option (List ℕ) × List ℕ). FoundOne SpellsName bytes y.0 y.1) (ok_is _ x a.2) found

name_some : (n : Option (List ℕ)) (ts : List Token) → SpellsName n ts → 1 ≤ length ts
name_some None ts h = rw h (omega arith)
name_some (Some w) ts h = rw (h.1) (omega arith)

pub given_name_at-shorter : (bytes : List ℕ) (x : Option (List ℕ) × List ℕ) → given_name_at bytes ≡ Ok x →
    length x.1 < length bytes
given_name_at-shorter bytes x e = found-shorter SpellsName given_name_at given_name_found name_some bytes x e

-- ---- strings and truth values

pub string_found : IsSound SpellsString text_at
unfolding text_at
string_found bytes x e =
    let a = bind_ok (sign_at 34 bytes) (λ inside. string_at inside >>=
    λ s. cond (is_utf8 s.0) (Ok (s.0, s.1)) (Err Unexpected)) x e in
    let b = bind_ok (string_at a.0) (λ s. cond (is_utf8 s.0) (Ok (s.0, s.1)) (Err Unexpected)) x a.2 in
    elim (chosen (is_utf8 b.0.0) _ _ _ b.2) [
      | inl h ↦
          let found : FoundOne SpellsString bytes b.0.0 b.0.1 =
          record {
            tokens = quoted b.0.0 ∷ [];
            begins = (
              b.0.1,
              (a.0, sign_found 34 bytes a.0 a.1, quoted-found a.0 b.0.0 b.0.1 b.1),
              refl,
            );
            spelled = (IsUtf8-from_is_utf8 b.0.0 h.0, refl);
          } in
          subst (λ (y : List ℕ × List ℕ). FoundOne SpellsString bytes y.0 y.1) (ok_is _ x h.1) found
      | inr h ↦ absurd (let k = h.1 in cc)
    ]

pub truth_found : IsSound SpellsTruth bool_at
unfolding bool_at
truth_found bytes x e =
    let a = bind_ok (word_at bytes) (λ w. cond (bytes_eq w.0 (codes "true")) (Ok (true, w.1))
    (cond (bytes_eq w.0 (codes "false")) (Ok (false, w.1)) (Err Unexpected))) x e in
    elim (chosen (bytes_eq a.0.0 (codes "true")) _ _ _ a.2) [
      | inl h ↦ subst (λ (y : Bool × List ℕ). FoundOne SpellsTruth bytes y.0 y.1) (ok_is _ x h.1)
          (seen true a.0 (word_found bytes a.0 a.1) ((bytes_eq-Decides a.0.0 (codes "true")).0 h.0))
      | inr g ↦ elim (chosen (bytes_eq a.0.0 (codes "false")) _ _ _ g.1) [
        | inl h ↦ subst (λ (y : Bool × List ℕ). FoundOne SpellsTruth bytes y.0 y.1) (ok_is _ x h.1)
            (seen false a.0 (word_found bytes a.0 a.1) ((bytes_eq-Decides a.0.0 (codes "false")).0 h.0))
        | inr h ↦ absurd (let k = h.1 in cc)
      ]
    ]
  where
    seen : (b : Bool) (w : List ℕ × List ℕ) → look bytes ≡ Ok (word w.0, w.1) → w.0 ≡ truth b →
        FoundOne SpellsTruth bytes b w.1
    seen b w is same = record {
      tokens = word (truth b) ∷ [];
      begins = (
        w.1,
        is ∙ ap (λ (v : List ℕ). done (word v, w.1)) same,
        refl,
      );
      spelled = refl;
    }

-- ---- integers

pub literal_takes : (s : Bool) (m : ℕ) (t : Token) (bytes rest : List ℕ) → SpellsLiteral s m t →
    look bytes ≡ Ok (t, rest) → Takes bytes t rest
literal_takes s m (digits n) bytes rest h e = e
literal_takes s m (signed r n) bytes rest h e = e
literal_takes s m (word w) bytes rest h e = absurd h
literal_takes s m (quoted q) bytes rest h e = absurd h
literal_takes s m arrow bytes rest h e = absurd h
literal_takes s m (sign b) bytes rest h e = absurd h

as_literal_is : (t : Token) (rest : List ℕ) (x : (Bool × ℕ) × List ℕ) → as_literal t rest ≡ Ok x →
    SpellsLiteral x.0.0 x.0.1 t × (rest ≡ x.1)
as_literal_is (digits n) rest x e =
    subst (λ (y : (Bool × ℕ) × List ℕ). SpellsLiteral y.0.0 y.0.1 (digits n) × (rest ≡ y.1)) (ok_is (
      (false, n),
      rest,
    ) x e) ((refl, refl), refl)
as_literal_is (signed s n) rest x e =
    subst (λ (y : (Bool × ℕ) × List ℕ). SpellsLiteral y.0.0 y.0.1 (signed s n) × (rest ≡ y.1)) (ok_is (
      (s, n),
      rest,
    ) x e) ((refl, refl), refl)
as_literal_is (word w) rest x e = absurd cc
as_literal_is (quoted q) rest x e = absurd cc
as_literal_is arrow rest x e = absurd cc
as_literal_is (sign b) rest x e = absurd cc

abbrev pub IsLiteral : Bool × ℕ → List Token → Type 0
IsLiteral x ts = (t : Token) × SpellsLiteral x.0 x.1 t × (ts ≡ t ∷ [])

literal_found : IsSound IsLiteral literal_at
unfolding literal_at
literal_found bytes x e =
    let a = bind_ok (look bytes) (λ t. as_literal t.0 t.1) x e in
    let b = as_literal_is a.0.0 a.0.1 x a.2 in
    record {
      tokens = a.0.0 ∷ [];
      begins = (
        x.1,
        literal_takes x.0.0 x.0.1 a.0.0 bytes x.1 b.0 (a.1 ∙
            ap (λ (r : List ℕ). done (a.0.0, r)) b.1),
        refl,
      );
      spelled = (a.0.0, b.0, refl);
    }

pub bits_found : (s : Bool) (m w b : ℕ) → bits_of s m w ≡ Ok b → IsBits s m w b
unfolding bits_of
bits_found true m w b e =
    elim (chosen (nat_le m (2 ^ (w - 1))) _ _ _ e) [
      | inl h ↦ (leb-true m (2 ^ (w - 1)) h.0, sym (ok_is _ b h.1))
      | inr h
          ↦ absurd (let k = h.1 in cc)
    ]
bits_found false m w b e =
    elim (chosen (nat_lt m (2 ^ w)) _ _ _ e) [
      | inl h ↦ ((Decides-ltb m (2 ^ w)).0 h.0, sym (ok_is _ b h.1))
      | inr h ↦
          absurd (let k = h.1 in cc)
    ]

value_of_found : (s : Bool) (m w b : ℕ) → value_of s m w ≡ Ok b → (1 ≤ w) × (w ≤ 64) × IsBits s m w b
unfolding value_of
value_of_found s m w b e =
    elim (chosen (is_width w) _ _ _ e) [
      | inl h ↦ let p = parts (nat_le 1 w) (nat_le w 64) h.0 in (
        leb-true 1 w p.0,
        leb-true w 64 p.1,
        bits_found s m w b h.1,
      )
      | inr h ↦ absurd (let k = h.1 in cc)
    ]

level_found : (n : ℕ) (bytes : List ℕ) (u : Unit {0}) → level_at n bytes ≡ Ok u → 1 ≤ n
unfolding level_at if_level
level_found n bytes u e = let a = bind_ok (word_at bytes) (λ w. if_level n) u e in
    elim (chosen (nat_le 1 n) _ _ _ a.2) [ inl h ↦ leb-true 1 n h.0 | inr h ↦ absurd (let k = h.1 in cc) ]

-- a value of a type, which is a level
abbrev pub IsValue : ℕ → (Signedness × ℕ) × ℕ → List Token → Type 0
IsValue n x ts = SpellsValue x.0.0 x.0.1 x.1 ts × (1 ≤ n)

pub value_found : (n : ℕ) → IsSound (IsValue n) (value_at n)
unfolding value_at
value_found n bytes x e =
    let a = bind_ok (sign_at 60 bytes) (λ start. literal_at start >>= λ v. sign_at 58 v.1 >>=
    λ colon. level_at n colon >>= λ u. integer_at colon >>= λ t. sign_at 62 t.1 >>=
    λ end. value_of v.0.0 v.0.1 t.0.1 >>= λ b. Ok ((t.0, b), end)) x e in
    let v = bind_ok (literal_at a.0) (λ v. sign_at 58 v.1 >>= λ colon. level_at n colon >>= λ u. integer_at colon >>=
    λ t. sign_at 62 t.1 >>= λ end. value_of v.0.0 v.0.1 t.0.1 >>= λ b. Ok ((t.0, b), end)) x a.2 in
    let k = bind_ok (sign_at 58 v.0.1) (λ colon. level_at n colon >>= λ u. integer_at colon >>= λ t. sign_at 62 t.1 >>=
    λ end. value_of v.0.0.0 v.0.0.1 t.0.1 >>= λ b. Ok ((t.0, b), end)) x v.2 in
    let l = bind_ok (level_at n k.0) (λ u. integer_at k.0 >>= λ t. sign_at 62 t.1 >>=
    λ end. value_of v.0.0.0 v.0.0.1 t.0.1 >>= λ b. Ok ((t.0, b), end)) x k.2 in
    let t = bind_ok (integer_at k.0) (λ t. sign_at 62 t.1 >>= λ end. value_of v.0.0.0 v.0.0.1 t.0.1 >>=
    λ b. Ok ((t.0, b), end)) x l.2 in
    let z = bind_ok (sign_at 62 t.0.1) (λ end. value_of v.0.0.0 v.0.0.1 t.0.0.1 >>= λ b. Ok ((t.0.0, b), end)) x t.2 in
    let b = bind_ok (value_of v.0.0.0 v.0.0.1 t.0.0.1) (λ b. Ok ((t.0.0, b), z.0)) x z.2 in
    let lit = literal_found a.0 v.0 v.1 in
    let type = integer_found k.0 t.0 t.1 in
    let value = value_of_found v.0.0.0 v.0.0.1 t.0.0.1 b.0 b.1 in
    let s = lit.spelled in
    let behind : Begins k.0 (type.tokens ++ (sign 62 ∷ [])) z.0 = Begins-append type.tokens (sign 62 ∷
    []) k.0 t.0.1 z.0 type.begins (z.0, sign_found 62 t.0.1 z.0 z.1, refl) in
    let first : Begins a.0 (s.0 ∷ []) v.0.1 = subst (λ (ts : List Token). Begins a.0 ts v.0.1) s.2 lit.begins in
    let all : Begins a.0 (s.0 ∷ sign 58 ∷ (type.tokens ++ (sign 62 ∷ []))) z.0 = Begins-append (s.0 ∷ []) (sign 58 ∷
    (type.tokens ++ (sign 62 ∷ []))) a.0 v.0.1 z.0 first (k.0, sign_found 58 v.0.1 k.0 k.1, behind) in
    let found : FoundOne (IsValue n) bytes (t.0.0, b.0) z.0 = record {
      tokens = sign 60 ∷ s.0 ∷ sign 58 ∷ (type.tokens ++ (sign 62 ∷ []));
      begins = (a.0, sign_found 60 bytes a.0 a.1, all);
      spelled = (
        record {
          negative = v.0.0.0;
          magnitude = v.0.0.1;
          literal = s.0;
          type = type.tokens;
          is_literal = s.1;
          is_type = type.spelled;
          some = value.0;
          few = value.1;
          is_bits = value.2;
          tokens = refl;
        },
        level_found n k.0 l.0 l.1,
      );
    } in
    subst (λ (y : ((Signedness × ℕ) × ℕ) × List ℕ). FoundOne (IsValue n) bytes y.0 y.1) (ok_is _ x b.2) found
