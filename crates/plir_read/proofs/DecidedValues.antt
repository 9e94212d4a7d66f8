-- The tokens decide what is read of integers, and which fault is met in one.
use Rattle.std.proofs.Common.{◌≡◌, ℕ, zero, suc, ◌≤◌, ◌-◌, ◌^◌, ◌&&◌, nat_le, nat_lt, Bool, true, false}
use Rattle.std.proofs.Common.{List, [], ◌∷◌, ◌++◌, Result, Ok, Err, refl, sym, ap, subst, ◌∙◌}
use Rattle.std.proofs.Common.{arith, inl, inr}
use Rattle.std.proofs.lemmas.Bool.{le-leb, leb-true, ltb-false, leb-false}
use Rattle.plir_data.specs.Integers.{is_width}
use Rattle.plir_data.specs.declared.types.Signedness.{Signedness}
use Rattle.plir_attr_text.specs.declared.fault.Fault.{Fault}
use Rattle.plir_attr_text.specs.declared.fault.Fault.TheVariants.{Unexpected, IntegerOutOfRange, TooDeep}
use Rattle.plir_attr_text.specs.declared.fault.Fault.TheVariants.{IntegerWidthUnsupported}
use Rattle.plir_attr_text.specs.AttrGrammar.{SpellsLiteral}
use Rattle.plir_attr_text.specs.AttrReading.{as_literal, literal_at, bits_of, value_of}
use Rattle.plir_attr_text.specs.AttrReading.{value_at}
use Rattle.plir_attr_text.specs.Levels.{if_level, level_at}
use Rattle.plir_attr_text.specs.Lists.{sign_at}
use Rattle.plir_attr_text.specs.Steps.{◌>>=◌}
use Rattle.plir_attr_text.specs.Tokens.{Token, word, digits, signed, quoted, arrow, sign, look, Takes, Begins}
use Rattle.plir_attr_text.specs.TypeReading.{word_at, integer_of, integer_at}
use Rattle.plir_attr_text.specs.laws.Begun.{Begins-append, Begins-split, sign_found, sign_again}
use Rattle.plir_attr_text.specs.laws.LeavesAgain.{value_again}
use Rattle.plir_attr_text.specs.laws.LeavesFound.{value_found}
use Rattle.plir_attr_text.specs.laws.LeavesFound.{IsValue, literal_takes}
use Rattle.plir_attr_text.specs.laws.ListsFound.{IsSound}
use Rattle.plir_attr_text.specs.laws.StepLaws.{chosen, bind_ok, done, ok_is}
use Rattle.plir_attr_text.specs.laws.TypesAgain.{integer_again}
use Rattle.plir_attr_text.specs.laws.TypesFound.{integer_found}
use Rattle.plir_read.specs.FaultsMet.{IsWrong, IsValueOf, IsUnsupported, anything}
use Rattle.plir_read.proofs.DecidedTypes.{steady_sign, steady_deep}
use Rattle.plir_read.proofs.DecidedTypes.{steady_integer}
use Rattle.plir_read.proofs.Deciding.{pairs, bare, Firm, Stopping, Steady, decided_as, bind_err, err_first, ok_first}
use Rattle.plir_read.proofs.Deciding.{steady_as, steady_bind, steady_done}
use Rattle.plir_read.proofs.OneToken.{Answers, steady_token}

-- what is found where it stands, and read where it stands
pub firm_of : {A : Type 0} (E : A → List Token → Type 0) (read : List ℕ → Result (A × List ℕ) Fault) →
    IsSound E read
    → ((x : A) (ts : List Token) (bytes rest : List ℕ) → E x ts → Begins bytes ts rest → read bytes ≡ Ok (x, rest)) →
    Firm pairs read
firm_of E read found again bytes x e =
    let f = found bytes x e in
    record {
      tokens = f.tokens;
      begins = f.begins;
      again = λ o r b n. again x.0 f.tokens o r f.spelled b;
    }

steady_literal : Steady pairs literal_at
unfolding literal_at
steady_literal = steady_token pairs as_literal at
  where
    at : (t : Token) → Answers pairs as_literal t
    at (digits n) = inl (((false, n), []), λ r. refl)
    at (signed s n) = inl (((s, n), []), λ r. refl)
    at (word w) = inr (Unexpected, (word w, refl), λ r. refl)
    at (quoted q) = inr (Unexpected, (quoted q, refl), λ r. refl)
    at arrow = inr (Unexpected, (arrow, refl), λ r. refl)
    at (sign b) = inr (Unexpected, (sign b, refl), λ r. refl)

-- a literal and the type behind it
abbrev Written : Type 0
Written = ((Bool × ℕ) × (Signedness × ℕ)) × List ℕ

-- a value before it is looked at: the type is a level
written_at : (n : ℕ) → List ℕ → Result Written Fault
written_at n bytes =
    sign_at 60 bytes >>= λ start. literal_at start >>= λ v. sign_at 58 v.1 >>= λ colon. level_at n colon >>=
    λ u. integer_at colon >>= λ t. sign_at 62 t.1 >>= λ end. Ok ((v.0, t.0), end)

abbrev valued : Written → Result (((Signedness × ℕ) × ℕ) × List ℕ) Fault
valued p = value_of p.0.0.0 p.0.0.1 p.0.1.1 >>= λ b. Ok ((p.0.1, b), p.1)

-- steps that go on, one by one
pub push : {A B C : Type 0} (r : Result A Fault) (k : A → Result C Fault) (f : A → Result B Fault)
    (g : B → Result C Fault) → ((x : A) → k x ≡ (f x >>= g)) → (r >>= k) ≡ ((r >>= f) >>= g)
push (Ok x) k f g h = h x
push (Err e) k f g h = refl

value_is : (n : ℕ) (z : List ℕ) → value_at n z ≡ (written_at n z >>= valued)
unfolding value_at written_at
value_is n z =
    push (sign_at 60 z) _ _ valued (λ s. push (literal_at s) _ _ valued (λ v. push (sign_at 58 v.1) _ _ valued
    (λ c. push (level_at n c) _ _ valued (λ u. push (integer_at c) _ _ valued
    (λ t. push (sign_at 62 t.1) _ _ valued (λ e. refl))))))

-- where no level is left a word is one too many; else what comes decides
no_level_is : {B : Type 0} (c : List ℕ) (g : Unit {0} → Result B Fault) → (level_at 0 c >>= g) ≡
    (word_at c >>= λ w. Err TooDeep)
unfolding level_at if_level
no_level_is c g = at (word_at c)
  where
    at : (r : Result (List ℕ × List ℕ) Fault) → ((r >>= λ w. Err TooDeep) >>= g) ≡ (r >>= λ w. Err TooDeep)
    at (Ok w) = refl
    at (Err f) = refl

some_level_is : {B : Type 0} (m : ℕ) (c : List ℕ) (g : (Signedness × ℕ) × List ℕ → Result B Fault) →
    (level_at (suc m) c >>= λ u. integer_at c >>= g) ≡ (integer_at c >>= g)
unfolding level_at if_level integer_at
some_level_is m c g = at (word_at c) refl
  where
    at : (r : Result (List ℕ × List ℕ) Fault) → word_at c ≡ r →
        ((word_at c >>= λ w. if_level (suc m)) >>= λ u. integer_at c >>= g) ≡ (integer_at c >>= g)
    at (Ok w) e = rw (e, le-leb 1 (suc m) (omega arith)) refl
    at (Err f) e = rw e refl

-- behind the colon
module _ (v : Bool × ℕ) where
  abbrev typed : (Signedness × ℕ) × List ℕ → Result Written Fault
  typed t = sign_at 62 t.1 >>= λ end. Ok ((v, t.0), end)

  steady_typed : Steady pairs (λ c. integer_at c >>= typed)
  steady_typed = steady_bind pairs integer_at steady_integer pairs typed
      (λ t. steady_bind bare (sign_at 62) (steady_sign 62) pairs _ (λ e. steady_done _))

  steady_level : (n : ℕ) → Steady pairs (λ c. level_at n c >>= λ u. integer_at c >>= typed)
  steady_level zero = steady_as pairs _ (λ z. word_at z >>= λ w. Err TooDeep)
      (λ c. no_level_is c (λ u. integer_at c >>= typed)) steady_deep
  steady_level (suc m) = steady_as pairs _ (λ c. integer_at c >>= typed) (λ c. some_level_is m c typed) steady_typed

steady_written : (n : ℕ) → Steady pairs (written_at n)
unfolding written_at
steady_written n =
    steady_bind bare (sign_at 60) (steady_sign 60) pairs _ (λ s. steady_bind pairs literal_at steady_literal pairs _
    (λ v. steady_bind bare (sign_at 58) (steady_sign 58) pairs _ (λ c. steady_level v.0 n)))

literal_is : (t : Token) (rest : List ℕ) (x : (Bool × ℕ) × List ℕ) → as_literal t rest ≡ Ok x →
    SpellsLiteral x.0.0 x.0.1 t × (rest ≡ x.1)
literal_is (digits n) rest x e =
    let P : (Bool × ℕ) × List ℕ → Type 0 = λ y. SpellsLiteral y.0.0 y.0.1 (digits n) × (rest ≡ y.1) in
    subst P (ok_is ((false, n), rest) x e) ((refl, refl), refl)
literal_is (signed s n) rest x e =
    let P : (Bool × ℕ) × List ℕ → Type 0 = λ y. SpellsLiteral y.0.0 y.0.1 (signed s n) × (rest ≡ y.1) in
    subst P (ok_is ((s, n), rest) x e) ((refl, refl), refl)
literal_is (word w) rest x e = absurd (let v = e in cc)
literal_is (quoted q) rest x e = absurd (let v = e in cc)
literal_is arrow rest x e = absurd (let v = e in cc)
literal_is (sign b) rest x e = absurd (let v = e in cc)

abbrev literal : Bool → ℕ → List ℕ → (Bool × ℕ) × List ℕ
literal s m rest = ((s, m), rest)

literal_reads : (s : Bool) (m : ℕ) (t : Token) (bytes rest : List ℕ) → SpellsLiteral s m t → Takes bytes t rest →
    literal_at bytes ≡ Ok ((s, m), rest)
unfolding literal_at
literal_reads s m (digits n) bytes rest h p =
    ok_first (look bytes) _ (digits n, rest) _ p
    (ap (λ (x : Bool). done (literal x n rest)) (sym h.0) ∙ ap (λ (y : ℕ). done (literal s y rest)) h.1)
literal_reads s m (signed r n) bytes rest h p =
    ok_first (look bytes) _ (signed r n, rest) _ p
    (ap (λ (x : Bool). done (literal x n rest)) h.0 ∙ ap (λ (y : ℕ). done (literal s y rest)) h.1)
literal_reads s m (word w) bytes rest h p = absurd h
literal_reads s m (quoted q) bytes rest h p = absurd h
literal_reads s m arrow bytes rest h p = absurd h
literal_reads s m (sign b) bytes rest h p = absurd h

-- a value as it stands
record WrittenAt (n : ℕ) (bytes : List ℕ) (p : Written) : Type 0 where
  tokens : List Token
  begins : Begins bytes tokens p.1
  spelled : IsValueOf p.0.0.0 p.0.0.1 p.0.1.1 tokens
  again : (o r : List ℕ) → Begins o tokens r → written_at n o ≡ Ok (p.0, r)

level_is_left : (n : ℕ) (c : List ℕ) (u : Unit {0}) → level_at n c ≡ Ok u → 1 ≤ n
unfolding level_at if_level
level_is_left n c u e = let a = bind_ok (word_at c) (λ w. if_level n) u e in
    elim (chosen (nat_le 1 n) _ _ _ a.2) [ inl h ↦ leb-true 1 n h.0 | inr h ↦ absurd (let k = h.1 in cc) ]

level_comes : (n : ℕ) (c : List ℕ) (x : (Signedness × ℕ) × List ℕ) → 1 ≤ n → integer_at c ≡ Ok x →
    level_at n c ≡ Ok tt
unfolding level_at if_level integer_at
level_comes n c x h e = let a = bind_ok (word_at c) (λ w. integer_of w.0 >>= λ t. Ok (t, w.1)) x e in
    rw (a.1, le-leb 1 n h) refl

written_found : (n : ℕ) (bytes : List ℕ) (p : Written) → written_at n bytes ≡ Ok p → WrittenAt n bytes p
unfolding written_at literal_at
written_found n bytes p e =
    let a = bind_ok (sign_at 60 bytes) (λ start. literal_at start >>= λ v. sign_at 58 v.1 >>=
    λ colon. level_at n colon >>= λ u. integer_at colon >>= typed v.0) p e in
    let v = bind_ok (literal_at a.0) (λ v. sign_at 58 v.1 >>= λ colon. level_at n colon >>= λ u. integer_at colon >>=
    typed v.0) p a.2 in
    let k = bind_ok (sign_at 58 v.0.1) (λ colon. level_at n colon >>= λ u. integer_at colon >>= typed v.0.0) p v.2 in
    let l = bind_ok (level_at n k.0) (λ u. integer_at k.0 >>= typed v.0.0) p k.2 in
    let t = bind_ok (integer_at k.0) (typed v.0.0) p l.2 in
    let z = bind_ok (sign_at 62 t.0.1) (λ end. Ok ((v.0.0, t.0.0), end)) p t.2 in
    let b = bind_ok (look a.0) (λ t. as_literal t.0 t.1) v.0 v.1 in
    let lit = literal_is b.0.0 b.0.1 v.0 b.2 in
    let type = integer_found k.0 t.0 t.1 in
    let takes = literal_takes v.0.0.0 v.0.0.1 b.0.0 a.0 v.0.1 lit.0
    (b.1 ∙ ap (λ (r : List ℕ). done (b.0.0, r)) lit.1) in
    let behind = Begins-append type.tokens (sign 62 ∷ []) k.0 t.0.1 z.0 type.begins
    (z.0, sign_found 62 t.0.1 z.0 z.1, refl) in
    let found : WrittenAt n bytes ((v.0.0, t.0.0), z.0) = record {
      tokens = sign 60 ∷ b.0.0 ∷ sign 58 ∷ (type.tokens ++ (sign 62 ∷ []));
      begins = (a.0, sign_found 60 bytes a.0 a.1, (v.0.1, takes, (k.0, sign_found 58 v.0.1 k.0 k.1, behind)));
      spelled = record {
        literal = b.0.0;
        signedness = t.0.0.0;
        type = type.tokens;
        is_literal = lit.0;
        is_type = type.spelled;
        tokens = refl;
      };
      again = λ o r c.
          let m = c.2 in
          let y = m.2 in
          let d = Begins-split type.tokens (sign 62 ∷ []) y.0 r y.2 in
          let end = d.2 in
          let read = integer_again t.0.0 type.tokens y.0 d.0 type.spelled d.1 in
          ok_first (sign_at 60 o) _ c.0 _ (sign_again 60 o c.0 c.1)
          (ok_first (literal_at c.0) _ (v.0.0, m.0) _ (literal_reads v.0.0.0 v.0.0.1 b.0.0 c.0 m.0 lit.0 m.1)
          (ok_first (sign_at 58 m.0) _ y.0 _ (sign_again 58 m.0 y.0 y.1)
          (ok_first (level_at n y.0) _ tt _ (level_comes n y.0 (t.0.0, d.0) (level_is_left n k.0 l.0 l.1) read)
          (ok_first (integer_at y.0) _ (t.0.0, d.0) _ read
          (ok_first (sign_at 62 d.0) _ end.0 _ (sign_again 62 d.0 end.0 end.1)
          (ap (λ (u : List ℕ). done ((v.0.0, t.0.0), u)) end.2))))));
    } in
    subst (WrittenAt n bytes) (ok_is _ p z.2) found

-- a value that is none
bits_wrong : (s : Bool) (m w : ℕ) (ts : List Token) (f : Fault) → IsValueOf s m w ts → bits_of s m w ≡ Err f →
    IsWrong f ts
unfolding bits_of
bits_wrong true m w ts f v e =
    elim (chosen (nat_le m (2 ^ (w - 1))) _ _ _ e) [
      | inl h ↦ absurd (let k = h.1 in cc)
      | inr h ↦
          let same : IntegerOutOfRange ≡ f = let k = h.1 in cc in
          subst (λ (g : Fault). IsWrong g ts) same (inr (inr (true, m, w, v, leb-false m (2 ^ (w - 1)) h.0)))
    ]
bits_wrong false m w ts f v e =
    elim (chosen (nat_lt m (2 ^ w)) _ _ _ e) [
      | inl h ↦ absurd (let k = h.1 in cc)
      | inr h ↦
          let same : IntegerOutOfRange ≡ f = let k = h.1 in cc in
          subst (λ (g : Fault). IsWrong g ts) same (inr (inr (false, m, w, v, ltb-false m (2 ^ w) h.0)))
    ]

value_wrong : (s : Bool) (m w : ℕ) (ts : List Token) (f : Fault) → IsValueOf s m w ts → value_of s m w ≡ Err f →
    IsWrong f ts
unfolding value_of
value_wrong s m w ts f v e =
    elim (chosen (is_width w) _ _ _ e) [
      | inl h ↦ bits_wrong s m w ts f v h.1
      | inr h ↦
          let same : IntegerWidthUnsupported ≡ f = let k = h.1 in cc in
          subst (λ (g : Fault). IsWrong g ts) same (s, m, w, v, unsupported (nat_le 1 w) (nat_le w 64) refl refl h.0)
    ]
  where
    unsupported : (a b : Bool) → nat_le 1 w ≡ a → nat_le w 64 ≡ b → (a && b) ≡ false → IsUnsupported w
    unsupported false b p q h = inl (leb-false 1 w p)
    unsupported true false p q h = inr (leb-false w 64 q)
    unsupported true true p q h = absurd (let k = h in cc)

stops_value : (n : ℕ) → Stopping (value_at n)
stops_value n bytes f e =
    elim (bind_err (written_at n bytes) valued f (sym (value_is n bytes) ∙ e)) [
      | inl p ↦ decided_as (λ o q. value_is n o ∙ err_first (written_at n o) valued f q) bytes f
          ((steady_written n).stops bytes f p)
      | inr p ↦
          let x = p.0 in
          let k = written_found n bytes x p.1 in
          elim (bind_err (value_of x.0.0.0 x.0.0.1 x.0.1.1) (λ b. Ok ((x.0.1, b), x.1)) f p.2) [
            | inl q ↦ record {
              tokens = k.tokens;
              rest = x.1;
              begins = k.begins;
              behind = anything;
              comes = tt;
              cause = ([], k.tokens, value_wrong x.0.0.0 x.0.0.1 x.0.1.1 k.tokens f k.spelled q, refl);
              decided = λ o r b c.
                  value_is n o ∙ ok_first (written_at n o) valued (x.0, r) (Err f) (k.again o r b)
                  (err_first (value_of x.0.0.0 x.0.0.1 x.0.1.1) _ f q);
            }
            | inr q ↦ absurd (let v = q.2 in cc)
          ]
    ]

pub steady_value : (n : ℕ) → Steady pairs (value_at n)
steady_value n = record {
  firm = firm_of (IsValue n) (value_at n) (value_found n)
      (λ x ts bytes rest h b. value_again n x.0.0 x.0.1 x.1 ts bytes rest h.0 h.1 b);
  stops = stops_value n;
}
