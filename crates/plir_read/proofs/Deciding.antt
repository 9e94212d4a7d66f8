-- Readers whose answers the tokens decide that they come to.
use Rattle.std.proofs.Common.{◌≡◌, ◌⊎◌, ℕ, ◌≤◌, Bool, true, false, cond, List, [], ◌∷◌, ◌++◌, length}
use Rattle.std.proofs.Common.{Option, Some, None, Result, Ok, Err, refl, sym, ap, subst, ◌∙◌, arith, inl, inr}
use Rattle.std.proofs.Common.{append_assoc, length-append}
use Rattle.plir_attr_text.specs.declared.fault.Fault.{Fault}
use Rattle.plir_attr_text.specs.declared.fault.Fault.TheVariants.{Unexpected}
use Rattle.plir_attr_text.specs.Bytes.{is_blank, past}
use Rattle.plir_attr_text.specs.Steps.{◌>>=◌}
use Rattle.plir_attr_text.specs.Tokens.{Token, word, digits, signed, quoted, arrow, sign, look, Takes, Begins}
use Rattle.plir_attr_text.specs.laws.Begun.{Begins-append, Begins-split}
use Rattle.plir_attr_text.specs.laws.StepLaws.{bind_ok, done, ok_is}
use Rattle.plir_attr_text.specs.declared.fault.Fault.TheVariants as faults
use Rattle.plir_read.specs.FaultsMet.{names_and_id, IsWrong, Behind, anything, the_end, a_string, Comes, IsCause}
use Rattle.plir_read.specs.FaultsMet.{IsDecided}

abbrev pub fault : {A : Type 0} → Fault → Result A Fault
fault f = Err f

-- ---- what comes next

-- how a token begins, before a string is looked into
abbrev seen : Token → Token
seen (quoted q) = sign 34
seen (word w) = word w
seen (digits n) = digits n
seen (signed s n) = signed s n
seen arrow = arrow
seen (sign b) = sign b

abbrev pub next_of : Result (Token × List ℕ) Fault → Option Token
next_of (Ok t) = Some t.0
next_of (Err f) = None

-- the token that comes next, if one does
abbrev pub next : List ℕ → Option Token
next bytes = next_of (look bytes)

takes_next : (bytes : List ℕ) (t : Token) (rest : List ℕ) → Takes bytes t rest → next bytes ≡ Some (seen t)
takes_next bytes (quoted q) rest p = ap next_of p.1
takes_next bytes (word w) rest p = ap next_of p
takes_next bytes (digits n) rest p = ap next_of p
takes_next bytes (signed s n) rest p = ap next_of p
takes_next bytes arrow rest p = ap next_of p
takes_next bytes (sign b) rest p = ap next_of p

-- texts that begin with the same tokens, and go on with the same one
pub alike : (ts : List Token) (a b r q : List ℕ) → Begins a ts r → Begins b ts q → next r ≡ next q → next a ≡ next b
alike [] a b r q p k e = ap next p ∙ e ∙ ap next (sym k)
alike (t ∷ ts) a b r q p k e = takes_next a t p.0 p.1 ∙ sym (takes_next b t k.0 k.1)

names_some : (ws : List (List ℕ)) (id : List ℕ) → 1 ≤ length (names_and_id ws id)
names_some [] id = omega arith
names_some (w ∷ ws) id = omega arith

-- what is wrong is some token
wrong_some : (f : Fault) (ts : List Token) → IsWrong f ts → 1 ≤ length ts
wrong_some faults.Unexpected ts w = rw (w.1) (omega arith)
wrong_some faults.TooDeep ts w = rw (w.1) (omega arith)
wrong_some faults.IntegerOutOfRange ts w =
    elim w [
      | inl h ↦ rw (h.3) (omega arith)
      | inr h ↦ elim h [
        | inl k ↦ rw (k.2) (omega arith)
        | inr k ↦ rw (k.3.tokens) (omega arith)
      ]
    ]
wrong_some faults.IntegerWidthUnsupported ts w = rw (w.3.tokens) (omega arith)
wrong_some faults.ForwardRefOpExistenceErr ts w = rw (w.1) (names_some w.0 _)
wrong_some (faults.NResultsVerifyErr e k) ts w = rw (w.2) (names_some w.0 w.1)
wrong_some faults.BadEscape ts w = absurd w
wrong_some faults.Memory ts w = absurd w
wrong_some faults.TooManyNodes ts w = absurd w

next_end : (a : List ℕ) → past is_blank a ≡ [] → next a ≡ None
unfolding look
next_end a e = rw e refl

-- ---- what is decided

module _ {Q R : List ℕ → Type 0} where
  pub decided_as : ((o : List ℕ) → Q o → R o) → (bytes : List ℕ) (f : Fault) → IsDecided Q bytes f → IsDecided R bytes f
  decided_as h bytes f d = record {
    tokens = d.tokens;
    rest = d.rest;
    begins = d.begins;
    behind = d.behind;
    comes = d.comes;
    cause = d.cause;
    decided = λ o r b c. h o (d.decided o r b c);
  }

-- texts that it decides of go on with the same token
module _ (bytes : List ℕ) (f : Fault) where
  next_alike : (ts : List Token) (b : Behind) (rest : List ℕ) → Begins bytes ts rest → Comes b rest → IsCause f ts b →
      (other r : List ℕ) → Begins other ts r → Comes b r → next bytes ≡ next other
  next_alike (t ∷ ts) b rest p c k other r q e = takes_next bytes t p.0 p.1 ∙ sym (takes_next other t q.0 q.1)
  next_alike [] anything rest p c k other r q e =
      absurd (omega (arith, wrong_some f k.1 k.2, ap length k.3, length-append k.0 k.1))
  next_alike [] the_end rest p c k other r q e =
      ap next p ∙ next_end rest c ∙ sym (next_end r e) ∙ ap next (sym q)
  next_alike [] (a_string i) rest p c k other r q e =
      ap next p ∙ ap next_of c ∙ sym (ap next_of e) ∙ ap next (sym q)

  decided_next : {Q : List ℕ → Type 0} (d : IsDecided Q bytes f) (other r : List ℕ) → Begins other d.tokens r →
      Comes d.behind r → next bytes ≡ next other
  decided_next d other r q e = next_alike d.tokens d.behind d.rest d.begins d.comes d.cause other r q e

cause_behind : (f : Fault) (ts us : List Token) (b : Behind) → IsCause f us b → IsCause f (ts ++ us) b
cause_behind f ts us anything k =
    (ts ++ k.0, k.1, k.2, ap (λ (l : List Token). ts ++ l) k.3 ∙ sym (append_assoc ts k.0 k.1))
cause_behind f ts us the_end k = k
cause_behind f ts us (a_string i) k = k

-- what is decided behind tokens is decided with them
pub decided_behind : {Q R : List ℕ → Type 0} (ts : List Token) (bytes rest : List ℕ) (f : Fault) →
    Begins bytes ts rest
    → ((o mid : List ℕ) → Begins o ts mid → next rest ≡ next mid → Q mid → R o) → IsDecided Q rest f →
    IsDecided R bytes f
decided_behind ts bytes rest f p step d = record {
  tokens = ts ++ d.tokens;
  rest = d.rest;
  begins = Begins-append ts d.tokens bytes rest d.rest p d.begins;
  behind = d.behind;
  comes = d.comes;
  cause = cause_behind f ts d.tokens d.behind d.cause;
  decided = λ o r b c.
      let m = Begins-split ts d.tokens o r b in
      step o m.0 m.1 (decided_next rest f d m.0 r m.2 c) (d.decided m.0 r m.2 c);
}

-- ---- readers

-- what a reader answers, and what stands behind it in the text
pub record Way (P : Type 0) : Type 0 where
  pub out : P → List ℕ
  pub put : P → List ℕ → P
  pub same : (x : P) → put x (out x) ≡ x
  pub outs : (x : P) (r : List ℕ) → out (put x r) ≡ r
  pub puts : (x : P) (a b : List ℕ) → put (put x a) b ≡ put x b

abbrev pub pairs : {A : Type 0} → Way (A × List ℕ)
pairs = record {
  out = λ x. x.1;
  put = λ x r. (x.0, r);
  same = λ x. refl;
  outs = λ x r. refl;
  puts = λ x a b. refl;
}

abbrev pub bare : Way (List ℕ)
bare = record { out = λ x. x; put = λ x r. r; same = λ x. refl; outs = λ x r. refl; puts = λ x a b. refl }

-- what is read is the same wherever these tokens stand first, and the same token behind them
pub record FirmAt {P : Type 0} (v : Way P) (read : List ℕ → Result P Fault) (bytes : List ℕ) (x : P) : Type 0 where
  pub tokens : List Token
  pub begins : Begins bytes tokens (v.out x)
  pub again : (other r : List ℕ) → Begins other tokens r → next (v.out x) ≡ next r → read other ≡ Ok (v.put x r)

abbrev pub Firm : {P : Type 0} → Way P → (List ℕ → Result P Fault) → Type 0
Firm {P} v read = (bytes : List ℕ) (x : P) → read bytes ≡ Ok x → FirmAt v read bytes x

abbrev pub Stopping : {Y : Type 0} → (List ℕ → Result Y Fault) → Type 0
Stopping {Y} read = (bytes : List ℕ) (f : Fault) → read bytes ≡ Err f → IsDecided (λ o. read o ≡ Err f) bytes f

pub record Steady {P : Type 0} (v : Way P) (read : List ℕ → Result P Fault) : Type 0 where
  pub firm : Firm v read
  pub stops : Stopping read

-- a reader that answers as another
pub steady_as : {P : Type 0} (v : Way P) (read other : List ℕ → Result P Fault) → ((z : List ℕ) → read z ≡ other z) →
    Steady v other → Steady v read
steady_as v read other is s = record {
  firm = λ bytes x e.
      let k = s.firm bytes x (sym (is bytes) ∙ e) in
      record { tokens = k.tokens; begins = k.begins; again = λ o r b n. is o ∙ k.again o r b n };
  stops = λ bytes f e. decided_as (λ o h. is o ∙ h) bytes f (s.stops bytes f (sym (is bytes) ∙ e));
}

-- the first fault of two steps
pub bind_err : {A B : Type 0} (r : Result A Fault) (g : A → Result B Fault) (f : Fault) → (r >>= g) ≡ Err f →
    (r ≡ Err f) ⊎ ((x : A) × (r ≡ Ok x) × (g x ≡ Err f))
bind_err (Ok x) g f e = inr (x, refl, e)
bind_err (Err d) g f e = let same : d ≡ f = cc in inl (ap fault same)

pub err_first : {A B : Type 0} (r : Result A Fault) (g : A → Result B Fault) (f : Fault) → r ≡ Err f → (r >>= g) ≡ Err f
err_first r g f e = subst (λ (c : Result _ Fault). (c >>= g) ≡ Err f) (sym e) refl

pub ok_first : {A B : Type 0} (r : Result A Fault) (g : A → Result B Fault) (x : A) (y : Result B Fault) → r ≡ Ok x →
    g x ≡ y → (r >>= g) ≡ y
ok_first r g x y e h = subst (λ (c : Result _ Fault). (c >>= g) ≡ y) (sym e) h

module _ {P : Type 0} (w : Way P) (first : List ℕ → Result P Fault) (s : Steady w first) where
  pub stops_bind : {B : Type 0} (then : P → Result B Fault) → ((x : P) → Stopping (λ z. then (w.put x z))) →
      Stopping (λ o. first o >>= then)
  stops_bind then t bytes f e =
      elim (bind_err (first bytes) then f e) [
        | inl p ↦ decided_as (λ o q. err_first (first o) then f q) bytes f (s.stops bytes f p)
        | inr p ↦
            let x = p.0 in
            let k = s.firm bytes x p.1 in
            let h : then (w.put x (w.out x)) ≡ Err f = ap then (w.same x) ∙ p.2 in
            decided_behind k.tokens bytes (w.out x) f k.begins
            (λ o mid b n q. ok_first (first o) then (w.put x mid) (Err f) (k.again o mid b n) q)
            (t x (w.out x) f h)
      ]

  firm_bind : {R : Type 0} (v : Way R) (then : P → Result R Fault) → ((x : P) → Firm v (λ z. then (w.put x z))) →
      Firm v (λ o. first o >>= then)
  firm_bind v then t bytes y e =
      let p = bind_ok (first bytes) then y e in
      let x = p.0 in
      let k = s.firm bytes x p.1 in
      let h : then (w.put x (w.out x)) ≡ Ok y = ap then (w.same x) ∙ p.2 in
      let l = t x (w.out x) y h in
      record {
        tokens = k.tokens ++ l.tokens;
        begins = Begins-append k.tokens l.tokens bytes (w.out x) (v.out y) k.begins l.begins;
        again = λ o r b n.
            let m = Begins-split k.tokens l.tokens o r b in
            ok_first (first o) then (w.put x m.0) (Ok (v.put y r))
            (k.again o m.0 m.1 (alike l.tokens (w.out x) m.0 (v.out y) r l.begins m.2 n)) (l.again m.0 r m.2 n);
      }

  pub steady_bind : {R : Type 0} (v : Way R) (then : P → Result R Fault) →
      ((x : P) → Steady v (λ z. then (w.put x z))) → Steady v (λ o. first o >>= then)
  steady_bind v then t = record {
    firm = firm_bind v then (λ x. (t x).firm);
    stops = stops_bind then (λ x. (t x).stops);
  }

-- nothing more is read
pub steady_done : {A : Type 0} (x : A) → Steady pairs (λ z. done (x, z))
steady_done x = record {
  firm = λ bytes y e.
      let is = ok_is (x, bytes) y e in
      record {
        tokens = [];
        begins = ap (λ (u : _ × List ℕ). u.1) is;
        again = λ o r b n.
            ap (λ (u : List ℕ). done (x, u)) b ∙ ap (λ (u : _ × List ℕ). done (u.0, r)) is;
      };
  stops = λ bytes f e. absurd (let k = e in cc);
}

-- a choice by the token that comes next
module _ {P : Type 0} (v : Way P) (test : Option Token → Bool) (some none : List ℕ → Result P Fault) where
  abbrev chosen_by : List ℕ → Result P Fault
  chosen_by z = cond (test (next z)) (some z) (none z)

  took_some : (z : List ℕ) → test (next z) ≡ true → chosen_by z ≡ some z
  took_some z e = rw e refl

  took_none : (z : List ℕ) → test (next z) ≡ false → chosen_by z ≡ none z
  took_none z e = rw e refl

  firm_either : Firm v some → Firm v none → Firm v chosen_by
  firm_either s t bytes x e = at (test (next bytes)) refl
    where
      at : (c : Bool) → test (next bytes) ≡ c → FirmAt v chosen_by bytes x
      at true c =
          let k = s bytes x (sym (took_some bytes c) ∙ e) in
          record {
            tokens = k.tokens;
            begins = k.begins;
            again = λ o r b n.
                took_some o (ap test (sym (alike k.tokens bytes o (v.out x) r k.begins b n)) ∙ c) ∙ k.again o r b n;
          }
      at false c =
          let k = t bytes x (sym (took_none bytes c) ∙ e) in
          record {
            tokens = k.tokens;
            begins = k.begins;
            again = λ o r b n.
                took_none o (ap test (sym (alike k.tokens bytes o (v.out x) r k.begins b n)) ∙ c) ∙ k.again o r b n;
          }

  stops_either : Stopping some → Stopping none → Stopping chosen_by
  stops_either s t bytes f e = at (test (next bytes)) refl
    where
      at : (c : Bool) → test (next bytes) ≡ c → IsDecided (λ o. chosen_by o ≡ Err f) bytes f
      at true c =
          decided_behind [] bytes bytes f refl
          (λ o mid b n q. took_some o (ap test (ap next b) ∙ ap test (sym n) ∙ c) ∙ ap some b ∙ q)
          (s bytes f (sym (took_some bytes c) ∙ e))
      at false c =
          decided_behind [] bytes bytes f refl
          (λ o mid b n q. took_none o (ap test (ap next b) ∙ ap test (sym n) ∙ c) ∙ ap none b ∙ q)
          (t bytes f (sym (took_none bytes c) ∙ e))

  pub steady_choice : Steady v some → Steady v none → Steady v chosen_by
  steady_choice s t = record { firm = firm_either s.firm t.firm; stops = stops_either s.stops t.stops }
