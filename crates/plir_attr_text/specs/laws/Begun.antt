-- Tokens that stand first in a text.
use Rattle.std.proofs.Common.{◌≡◌, ℕ, suc, ◌+◌, ◌<◌, ◌≤◌, Bool, true, false, cond, nat_eq, ◌&&◌, List, [], ◌∷◌, ◌++◌}
use Rattle.std.proofs.Common.{length, Some, None, Result, Ok, Err, refl, sym, ap, subst, ◌∙◌, arith, inl, inr}
use Rattle.std.proofs.lemmas.Bool.Decides.{Decides-eqb}
use Rattle.plir_data.specs.Identifier.{is_letter, is_digit}
use Rattle.plir_attr_text.specs.Tokens.{Token, word, digits, signed, quoted, arrow, sign, is_mark, token_at, look}
use Rattle.plir_attr_text.specs.Tokens.{Takes, Begins}
use Rattle.plir_attr_text.specs.Lists.{is_sign, sign_at, behind_sign, past_sign, separator_at}
use Rattle.plir_attr_text.specs.TypeReading.{as_word, word_at, as_arrow, arrow_at}
use Rattle.plir_attr_text.specs.{declared.fault.Fault.Fault, declared.fault.Fault.TheVariants.Unexpected}
use Rattle.plir_attr_text.specs.{Bytes.is_blank, Bytes.past, Bytes.begins, Bytes.tail_of, Strings.AreUnits}
use Rattle.plir_attr_text.specs.{laws.StepLaws.chosen, laws.StepLaws.bind_ok, laws.StepLaws.done, laws.StepLaws.ok_is}
use Rattle.plir_attr_text.specs.{laws.Lexing.past-length, laws.Lexing.word_past-length, laws.Quoted.unit-shorter}

-- ---- each token takes a byte or more

tail-length : (bs : List ℕ) → length (tail_of bs) ≤ length bs
tail-length [] = omega arith
tail-length (b ∷ bs) = omega arith

digits-shorter : (b : ℕ) (bs : List ℕ) → is_digit b ≡ true → length (past is_digit (b ∷ bs)) < suc (length bs)
digits-shorter b bs e = rw e (omega (arith, past-length is_digit bs))

token_at-shorter : (bytes : List ℕ) (x : Token × List ℕ) → token_at bytes ≡ Ok x → length x.1 < length bytes
token_at-shorter [] x e = absurd cc
token_at-shorter (b ∷ bs) x e =
    let P : Token × List ℕ → Type 0 = λ y. length y.1 < suc (length bs) in
    elim (chosen (is_letter b) _ _ _ e) [
      | inl w ↦ subst P (ok_is _ x w.1) (omega (arith, word_past-length bs))
      | inr e1 ↦ elim (chosen (is_digit b) _ _ _ e1.1) [
        | inl w ↦ subst P (ok_is _ x w.1) (digits-shorter b bs w.0)
        | inr e2 ↦ elim (chosen (is_mark b && begins is_digit bs) _ _ _ e2.1) [
          | inl w ↦ subst P (ok_is _ x w.1) (omega (arith, past-length is_digit bs))
          | inr e3 ↦ elim (chosen (nat_eq b 45 && begins (λ c. nat_eq c 62) bs) _ _ _ e3.1) [
            | inl w ↦ subst P (ok_is _ x w.1) (omega (arith, tail-length bs))
            | inr w ↦ subst P (ok_is _ x w.1) (omega arith)
          ]
        ]
      ]
    ]

pub look-shorter : (bytes : List ℕ) (x : Token × List ℕ) → look bytes ≡ Ok x → length x.1 < length bytes
unfolding look
look-shorter bytes x e = omega (arith, token_at-shorter (past is_blank bytes) x e, past-length is_blank bytes)

units-shorter : (us : List (List ℕ)) (bytes rest : List ℕ) → AreUnits bytes us rest → length rest < length bytes
units-shorter [] bytes rest a = unit-shorter bytes (None, rest) a
units-shorter (u ∷ us) bytes rest a =
    omega (arith, unit-shorter bytes (Some u, a.0) a.1, units-shorter us a.0 rest a.2)

pub Takes-shorter : (bytes : List ℕ) (t : Token) (rest : List ℕ) → Takes bytes t rest → length rest < length bytes
Takes-shorter bytes (quoted q) rest p = omega (
  arith,
  look-shorter bytes (sign 34, p.0) p.1,
  units-shorter p.2.0 p.0 rest p.2.2,
)
Takes-shorter bytes (word w) rest p = look-shorter bytes (word w, rest) p
Takes-shorter bytes (digits n) rest p = look-shorter bytes (digits n, rest) p
Takes-shorter bytes (signed s n) rest p = look-shorter bytes (signed s n, rest) p
Takes-shorter bytes arrow rest p = look-shorter bytes (arrow, rest) p
Takes-shorter bytes (sign b) rest p = look-shorter bytes (sign b, rest) p

-- ---- one list of tokens behind another

pub Begins-append : (a b : List Token) (bytes mid rest : List ℕ) → Begins bytes a mid → Begins mid b rest →
    Begins bytes (a ++ b) rest
Begins-append [] b bytes mid rest p q = subst (λ (x : List ℕ). Begins x b rest) (sym p) q
Begins-append (t ∷ a) b bytes mid rest p q = (p.0, p.1, Begins-append a b p.0 mid rest p.2 q)

pub Begins-split : (a b : List Token) (bytes rest : List ℕ) → Begins bytes (a ++ b) rest →
    (mid : List ℕ) × Begins bytes a mid × Begins mid b rest
Begins-split [] b bytes rest p = (bytes, refl, p)
Begins-split (t ∷ a) b bytes rest p = let q = Begins-split a b p.0 rest p.2 in (q.0, (p.0, p.1, q.1), q.2)

pub Begins-length : (ts : List Token) (bytes rest : List ℕ) → Begins bytes ts rest →
    length rest + length ts ≤ length bytes
Begins-length [] bytes rest p = omega (arith, ap length p)
Begins-length (t ∷ ts) bytes rest p = omega (arith, Takes-shorter bytes t p.0 p.1, Begins-length ts p.0 rest p.2)

-- ---- what is read stands there

as_word_is : (t : Token) (rest : List ℕ) (x : List ℕ × List ℕ) → as_word t rest ≡ Ok x → (t ≡ word x.0) × (rest ≡ x.1)
as_word_is (word w) rest x e = let h = ok_is (w, rest) x e in (
  ap (λ (y : List ℕ × List ℕ). word y.0) h,
  ap (λ (y : List ℕ × List ℕ). y.1) h,
)
as_word_is (digits n) rest x e = absurd cc
as_word_is (signed n m) rest x e = absurd cc
as_word_is (quoted q) rest x e = absurd cc
as_word_is arrow rest x e = absurd cc
as_word_is (sign b) rest x e = absurd cc

pub word_found : (bytes : List ℕ) (x : List ℕ × List ℕ) → word_at bytes ≡ Ok x → look bytes ≡ Ok (word x.0, x.1)
unfolding word_at
word_found bytes x e =
    let a = bind_ok (look bytes) (λ t. as_word t.0 t.1) x e in
    let b = as_word_is a.0.0 a.0.1 x a.2 in
    a.1 ∙ ap (λ (t : Token). done (t, a.0.1)) b.0 ∙ ap (λ (r : List ℕ). done (word x.0, r)) b.1

as_arrow_is : (t : Token) (rest x : List ℕ) → as_arrow t rest ≡ Ok x → (t ≡ arrow) × (rest ≡ x)
as_arrow_is arrow rest x e = (refl, ok_is rest x e)
as_arrow_is (word w) rest x e = absurd cc
as_arrow_is (digits n) rest x e = absurd cc
as_arrow_is (signed n m) rest x e = absurd cc
as_arrow_is (quoted q) rest x e = absurd cc
as_arrow_is (sign b) rest x e = absurd cc

pub arrow_found : (bytes x : List ℕ) → arrow_at bytes ≡ Ok x → look bytes ≡ Ok (arrow, x)
unfolding arrow_at
arrow_found bytes x e =
    let a = bind_ok (look bytes) (λ t. as_arrow t.0 t.1) x e in
    let b = as_arrow_is a.0.0 a.0.1 x a.2 in
    a.1 ∙ ap (λ (t : Token). done (t, a.0.1)) b.0 ∙ ap (λ (r : List ℕ). done (arrow, r)) b.1

pub sign_is : (b : ℕ) (t : Token) → is_sign b t ≡ true → t ≡ sign b
sign_is b (sign c) e = ap sign ((Decides-eqb c b).0 e)
sign_is b (word w) e = absurd cc
sign_is b (digits n) e = absurd cc
sign_is b (signed n m) e = absurd cc
sign_is b (quoted q) e = absurd cc
sign_is b arrow e = absurd cc

seen_sign : (b : ℕ) (bytes : List ℕ) (t : Token × List ℕ) (rest : List ℕ) → look bytes ≡ Ok t → is_sign b t.0 ≡ true →
    t.1 ≡ rest → look bytes ≡ Ok (sign b, rest)
seen_sign b bytes t rest e s r = e ∙ ap (λ (u : Token). done (u, t.1)) (sign_is b t.0 s) ∙
    ap (λ (u : List ℕ). done (sign b, u)) r

pub sign_found : (b : ℕ) (bytes rest : List ℕ) → sign_at b bytes ≡ Ok rest → look bytes ≡ Ok (sign b, rest)
unfolding sign_at
sign_found b bytes rest e =
    let a = bind_ok (look bytes) (λ t. cond (is_sign b t.0) (Ok t.1) (Err Unexpected)) rest e in
    elim (chosen (is_sign b a.0.0) _ _ _ a.2) [
      | inl h ↦ seen_sign b bytes a.0 rest a.1 h.0 (ok_is _ _ h.1)
      | inr h ↦ absurd (let k = h.1 in cc)
    ]

pub past_sign_found : (b : ℕ) (bytes rest : List ℕ) → past_sign b bytes ≡ Some rest → look bytes ≡ Ok (sign b, rest)
unfolding past_sign
past_sign_found b bytes rest e = at (look bytes) refl e
  where
    at : (r : Result (Token × List ℕ) Fault) → look bytes ≡ r → behind_sign b r ≡ Some rest →
        look bytes ≡ Ok (sign b, rest)
    at (Ok t) f h = elim (chosen (is_sign b t.0) _ _ _ h) [
      | inl k ↦ seen_sign b bytes t rest f k.0 (let v = k.1 in
          cc)
      | inr k ↦ absurd (let v = k.1 in cc)
    ]
    at (Err d) f h = absurd cc

-- the sign that parts items, or that closes them
abbrev pub separator : (close : ℕ) → Bool → ℕ
separator close true = 44
separator close false = close

pub separator_found : (close : ℕ) (bytes : List ℕ) (x : Bool × List ℕ) → separator_at close bytes ≡ Ok x →
    look bytes ≡ Ok (sign (separator close x.0), x.1)
unfolding separator_at
separator_found close bytes x e =
    let a = bind_ok (look bytes) (λ t. cond (is_sign close t.0) (Ok (false, t.1))
    (cond (is_sign 44 t.0) (Ok (true, t.1)) (Err Unexpected))) x e in
    let P : Bool × List ℕ → Type 0 = λ y. look bytes ≡ Ok (sign (separator close y.0), y.1) in
    elim (chosen (is_sign close a.0.0) _ _ _ a.2) [
      | inl h ↦ subst P (ok_is _ x h.1) (seen_sign close bytes a.0 a.0.1 a.1 h.0 refl)
      | inr h ↦ elim (chosen (is_sign 44 a.0.0) _ _ _ h.1) [
        | inl k ↦ subst P (ok_is _ x k.1) (seen_sign 44 bytes a.0 a.0.1 a.1 k.0 refl)
        | inr k ↦ absurd (let v = k.1 in cc)
      ]
    ]

pub separator_at-shorter : (close : ℕ) (bytes : List ℕ) (x : Bool × List ℕ) → separator_at close bytes ≡ Ok x →
    length x.1 < length bytes
separator_at-shorter close bytes x e = look-shorter bytes (
  sign (separator close x.0),
  x.1,
) (separator_found close bytes x e)

-- ---- what stands there is read

pub word_again : (bytes w rest : List ℕ) → look bytes ≡ Ok (word w, rest) → word_at bytes ≡ Ok (w, rest)
unfolding word_at
word_again bytes w rest e = rw e refl

pub arrow_again : (bytes rest : List ℕ) → look bytes ≡ Ok (arrow, rest) → arrow_at bytes ≡ Ok rest
unfolding arrow_at
arrow_again bytes rest e = rw e refl

itself : (b : ℕ) → nat_eq b b ≡ true
itself b = (Decides-eqb b b).1 refl

pub sign_again : (b : ℕ) (bytes rest : List ℕ) → look bytes ≡ Ok (sign b, rest) → sign_at b bytes ≡ Ok rest
unfolding sign_at
sign_again b bytes rest e = rw (e, itself b) refl

pub past_sign_again : (b : ℕ) (bytes rest : List ℕ) → look bytes ≡ Ok (sign b, rest) → past_sign b bytes ≡ Some rest
unfolding past_sign
past_sign_again b bytes rest e = rw (e, itself b) refl

pub no_sign : (b : ℕ) (bytes : List ℕ) (t : Token × List ℕ) → look bytes ≡ Ok t → is_sign b t.0 ≡ false →
    past_sign b bytes ≡ None
unfolding past_sign
no_sign b bytes t e s = rw (e, s) refl

pub closed_again : (close : ℕ) (bytes rest : List ℕ) → look bytes ≡ Ok (sign close, rest) →
    separator_at close bytes ≡ Ok (false, rest)
unfolding separator_at
closed_again close bytes rest e = rw (e, itself close) refl

pub comma_again : (close : ℕ) (bytes rest : List ℕ) → nat_eq 44 close ≡ false → look bytes ≡ Ok (sign 44, rest) →
    separator_at close bytes ≡ Ok (true, rest)
unfolding separator_at
comma_again close bytes rest other e = rw (e, other) refl
