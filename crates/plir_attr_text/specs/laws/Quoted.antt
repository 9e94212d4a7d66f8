-- What is quoted, step by step.
use Rattle.std.proofs.Common.{◌≡◌, ◌⊎◌, ℕ, zero, suc, ◌<◌, ◌≤◌, Bool, true, false, cond, nat_eq, ◌&&◌, List, [], ◌∷◌}
use Rattle.std.proofs.Common.{◌++◌, length, Option, Some, None, Result, Ok, Err, refl, sym, ap, subst, arith, inl, inr}
use Rattle.std.proofs.Common.{◌∙◌, append_assoc, append-nil}
use Rattle.std.specs.{Prelude.encode_utf8, List.concat}
use Rattle.plir_attr_text.specs.Strings.{is_code, closed_code, code_at, escape_at, unit_at, behind, onward, content_at}
use Rattle.plir_attr_text.specs.Strings.{AreUnits, IsQuoted, string_at}
use Rattle.plir_attr_text.specs.laws.StepLaws.{chosen, bind_ok, done, ok_is, Fails-bind, Fails-from}
use Rattle.plir_attr_text.specs.{declared.fault.Fault.Fault, declared.fault.Stop.Stop, Bytes.is_hex, Bytes.front}
use Rattle.plir_attr_text.specs.{Bytes.past, Steps.◌>>=◌, Reading.Fails, laws.Lexing.past-length}

-- each step takes a byte or more
closed-shorter : (ds bytes : List ℕ) (x : ℕ × List ℕ) → closed_code ds bytes ≡ Ok x → length x.1 < length bytes
closed-shorter ds [] x e = absurd cc
closed-shorter ds (b ∷ bs) x e =
    elim (chosen (nat_eq b 125 && is_code ds) _ _ _ e) [
      | inl h ↦ subst (λ (z : ℕ × List ℕ). length z.1 < suc (length bs)) (ok_is _ x h.1) (omega arith)
      | inr h ↦ absurd (let v = h.1 in cc)
    ]

code-shorter : (bytes : List ℕ) (x : ℕ × List ℕ) → code_at bytes ≡ Ok x → length x.1 < length bytes
unfolding code_at
code-shorter [] x e = absurd cc
code-shorter (b ∷ bs) x e =
    elim (chosen (nat_eq b 123) _ _ _ e) [
      | inl h ↦ omega (arith, closed-shorter (front is_hex bs) (past is_hex bs) x h.1, past-length is_hex bs)
      | inr h ↦ absurd (let v = h.1 in cc)
    ]

short_or : (t : Bool) (c : ℕ) (bs : List ℕ) (r : Result (ℕ × List ℕ) Fault) (x : ℕ × List ℕ) →
    cond t (Ok (c, bs)) r ≡ Ok x → (length x.1 ≤ length bs) ⊎ (r ≡ Ok x)
short_or true c bs r x e = inl (subst (λ (z : ℕ × List ℕ). length z.1 ≤ length bs) (ok_is (c, bs) x e) (omega arith))
short_or false c bs r x e = inr e

escape-shorter : (bytes : List ℕ) (x : ℕ × List ℕ) → escape_at bytes ≡ Ok x → length x.1 < length bytes
unfolding escape_at
escape-shorter [] x e = absurd cc
escape-shorter (b ∷ bs) x e =
    elim (short_or (nat_eq b 34) 34 bs _ x e) [
      | inl h ↦ omega (arith, h)
      | inr e1 ↦ elim (short_or (nat_eq b 92) 92 bs _ x e1) [
        | inl h ↦ omega (arith, h)
        | inr e2 ↦ elim (short_or (nat_eq b 110) 10 bs _ x e2) [
          | inl h ↦ omega (arith, h)
          | inr e3 ↦ elim (short_or (nat_eq b 116) 9 bs _ x e3) [
            | inl h ↦ omega (arith, h)
            | inr e4 ↦ elim (short_or (nat_eq b 114) 13 bs _ x e4) [
              | inl h ↦ omega (arith, h)
              | inr e5 ↦ elim (short_or (nat_eq b 48) 0 bs _ x e5) [
                | inl h ↦ omega (arith, h)
                | inr e6 ↦ elim (chosen (nat_eq b 117) _ _ _ e6) [
                  | inl h ↦ omega (arith, code-shorter bs x h.1)
                  | inr h ↦ absurd (let v = h.1 in cc)
                ]
              ]
            ]
          ]
        ]
      ]
    ]

pub unit-shorter : (bytes : List ℕ) (x : Option (List ℕ) × List ℕ) → unit_at bytes ≡ Ok x → length x.1 < length bytes
unfolding unit_at
unit-shorter [] x e = absurd cc
unit-shorter (b ∷ bs) x e =
    elim (chosen (nat_eq b 34) _ _ _ e) [
      | inl h ↦ subst (λ (z : Option (List ℕ) × List ℕ). length z.1 < suc (length bs)) (ok_is _ x h.1) (omega arith)
      | inr g ↦ elim (chosen (nat_eq b 92) _ _ _ g.1) [
        | inl h ↦
            let a = bind_ok (escape_at bs) (λ y. Ok (Some (encode_utf8 y.0), y.1)) x h.1 in
            subst (λ (z : Option (List ℕ) × List ℕ). length z.1 < suc (length bs)) (ok_is _ x a.2) (omega (
              arith,
              escape-shorter bs a.0 a.1,
            ))
        | inr h ↦ subst (λ (z : Option (List ℕ) × List ℕ). length z.1 < suc (length bs)) (ok_is _ x h.1) (omega arith)
      ]
    ]

-- reading goes on from here, where front has been read, and gives total in the end
abbrev pub GoesOn : List ℕ → List ℕ → Result (List ℕ × List ℕ) Fault → Type 0
GoesOn front bytes total = (n : ℕ) × (length bytes < n) × (behind front (content_at n bytes) ≡ total)

behind-nothing : (r : Result (List ℕ × List ℕ) Fault) → behind [] r ≡ r
behind-nothing (Ok x) = refl
behind-nothing (Err f) = refl

pub starts : (bytes : List ℕ) → GoesOn [] bytes (string_at bytes)
unfolding string_at
starts bytes = (suc (length bytes), omega arith, behind-nothing (content_at (suc (length bytes)) bytes))

behind-behind : (a b : List ℕ) (r : Result (List ℕ × List ℕ) Fault) → behind a (behind b r) ≡ behind (a ++ b) r
behind-behind a b (Ok x) = ap (λ (y : List ℕ). done (y, x.1)) (sym (append_assoc a b x.0))
behind-behind a b (Err f) = refl

module _ (front bytes : List ℕ) (total : Result (List ℕ × List ℕ) Fault) where
  one_step : GoesOn front bytes total → (n : ℕ) × (length bytes ≤ n) × (behind front (unit_at bytes >>=
      λ u. onward (content_at n) u.0 u.1) ≡ total)
  unfolding content_at
  one_step g = at g.0 g.1 g.2
    where
      at : (n : ℕ) → length bytes < n → behind front (content_at n bytes) ≡ total →
          (m : ℕ) × (length bytes ≤ m) × (behind front (unit_at bytes >>= λ u. onward (content_at m) u.0 u.1) ≡ total)
      at zero lt e = absurd (omega arith)
      at (suc m) lt e = (m, omega arith, e)

  pub stops : (e : Stop) → GoesOn front bytes total → Fails e (unit_at bytes) → Fails e total
  stops e g h =
      let s = one_step g in
      Fails-from e _ _ s.2 (Fails-bind e (unit_at bytes >>= λ u. onward (content_at s.0) u.0 u.1) (λ x. Ok (
        front ++
            x.0,
        x.1,
      )) (Fails-bind e (unit_at bytes) (λ u. onward (content_at s.0) u.0 u.1) h))

  pub ends : (rest : List ℕ) → GoesOn front bytes total → unit_at bytes ≡ Ok (None, rest) → total ≡ Ok (front, rest)
  ends rest g h =
      let s = one_step g in
      let e : behind front (unit_at bytes >>= λ u. onward (content_at s.0) u.0 u.1) ≡ Ok (front ++ [], rest) =
      rw h refl in
      sym s.2 ∙ e ∙ ap (λ (y : List ℕ). done (y, rest)) (append-nil front)

  pub goes_on : (more rest : List ℕ) → GoesOn front bytes total → unit_at bytes ≡ Ok (Some more, rest) →
      GoesOn (front ++ more) rest total
  goes_on more rest g h =
      let s = one_step g in
      let e : behind front (unit_at bytes >>= λ u. onward (content_at s.0) u.0 u.1) ≡ behind (front ++
      more) (content_at s.0 rest) = rw h (behind-behind front more (content_at s.0 rest)) in
      (s.0, omega (arith, unit-shorter bytes (Some more, rest) h), sym e ∙ s.2)

-- ---- what a reader makes of a string, and what is quoted there

units-found : (n : ℕ) (bytes : List ℕ) (x : List ℕ × List ℕ) → content_at n bytes ≡ Ok x → IsQuoted bytes x.0 x.1
unfolding content_at
units-found zero bytes x e = absurd cc
units-found (suc n) bytes x e = let u = bind_ok (unit_at bytes) (λ v. onward (content_at n) v.0 v.1) x e in
    at (λ r y f. units-found n r y f) u.0 u.1 u.2
  where
    Quoted-here : List ℕ × List ℕ → Type 0
    Quoted-here z = IsQuoted bytes z.0 z.1

    at : ((r : List ℕ) (y : List ℕ × List ℕ) → content_at n r ≡ Ok y → IsQuoted r y.0 y.1) →
        (v : Option (List ℕ) × List ℕ) → unit_at bytes ≡ Ok v → onward (content_at n) v.0 v.1 ≡ Ok x →
        Quoted-here x
    at found (None, rest) f h = subst Quoted-here (ok_is ([], rest) x h) ([], refl, f)
    at found (Some front, rest) f h =
        let b = bind_ok (content_at n rest) (λ y. Ok (front ++ y.0, y.1)) x h in
        let q = found rest b.0 b.1 in
        subst Quoted-here (ok_is _ x b.2) (front ∷ q.0, ap (λ (v : List ℕ). front ++ v) q.1, (rest, f, q.2))

pub quoted-found : (bytes q rest : List ℕ) → string_at bytes ≡ Ok (q, rest) → IsQuoted bytes q rest
unfolding string_at
quoted-found bytes q rest e = units-found (suc (length bytes)) bytes (q, rest) e

units-read : (us : List (List ℕ)) (front bytes rest : List ℕ) (total : Result (List ℕ × List ℕ) Fault) →
    AreUnits bytes us rest → GoesOn front bytes total → total ≡ Ok (front ++ concat us, rest)
units-read [] front bytes rest total a g = ends front bytes total rest g a ∙
    ap (λ (y : List ℕ). done (y, rest)) (sym (append-nil front))
units-read (u ∷ us) front bytes rest total a g =
    units-read us (front ++ u) a.0 rest total a.2 (goes_on front bytes total u a.0 g a.1) ∙
    ap (λ (y : List ℕ). done (y, rest)) (append_assoc front u (concat us))

pub quoted-read : (bytes q rest : List ℕ) → IsQuoted bytes q rest → string_at bytes ≡ Ok (q, rest)
quoted-read bytes q rest p = units-read p.0 [] bytes rest (string_at bytes) p.2 (starts bytes) ∙
    ap (λ (y : List ℕ). done (y, rest)) p.1
