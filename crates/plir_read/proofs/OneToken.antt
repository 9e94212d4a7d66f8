-- Readers of one token.
use Rattle.std.proofs.Common.{◌≡◌, ◌⊎◌, ℕ, List, [], ◌∷◌}
use Rattle.std.proofs.Common.{Result, Ok, Err, refl, sym, ap, subst, ◌∙◌, inl, inr}
use Rattle.std.proofs.Common.{nat_eq, ◌&&◌}
use Rattle.plir_data.specs.Identifier.{is_letter, is_digit}
use Rattle.plir_attr_text.specs.declared.fault.Fault.{Fault}
use Rattle.plir_attr_text.specs.declared.fault.Fault.TheVariants.{Unexpected}
use Rattle.plir_attr_text.specs.Bytes.{is_blank, past, begins}
use Rattle.plir_attr_text.specs.Steps.{◌>>=◌}
use Rattle.plir_attr_text.specs.Tokens.{Token, word, digits, signed, quoted, arrow, sign, look, Takes, is_mark}
use Rattle.plir_attr_text.specs.Tokens.{token_at}
use Rattle.plir_attr_text.specs.laws.StepLaws.{bind_ok, done, ok_is, chosen}
use Rattle.plir_read.specs.FaultsMet.{IsWrong, anything, the_end}
use Rattle.plir_read.proofs.Deciding.{fault, Way, Firm, Stopping, Steady, bind_err, err_first, ok_first}

-- it isn't a string that is looked into
abbrev pub IsPlain : Token → Type 0
IsPlain (quoted q) = ⊥
IsPlain (word w) = Unit {0}
IsPlain (digits n) = Unit {0}
IsPlain (signed s n) = Unit {0}
IsPlain arrow = Unit {0}
IsPlain (sign b) = Unit {0}

plain_at : (bytes : List ℕ) (x : Token × List ℕ) → token_at bytes ≡ Ok x → IsPlain x.0
plain_at [] x e = absurd cc
plain_at (b ∷ bs) x e =
    let P : Token × List ℕ → Type 0 = λ y. IsPlain y.0 in
    elim (chosen (is_letter b) _ _ _ e) [
      | inl w ↦ subst P (ok_is _ x w.1) tt
      | inr e1 ↦ elim (chosen (is_digit b) _ _ _ e1.1) [
        | inl w ↦ subst P (ok_is _ x w.1) tt
        | inr e2 ↦ elim (chosen (is_mark b && begins is_digit bs) _ _ _ e2.1) [
          | inl w ↦ subst P (ok_is _ x w.1) tt
          | inr e3 ↦ elim (chosen (nat_eq b 45 && begins (λ c. nat_eq c 62) bs) _ _ _ e3.1) [
            | inl w ↦ subst P (ok_is _ x w.1) tt
            | inr w ↦ subst P (ok_is _ x w.1) tt
          ]
        ]
      ]
    ]

pub plain : (bytes : List ℕ) (x : Token × List ℕ) → look bytes ≡ Ok x → IsPlain x.0
unfolding look
plain bytes x e = plain_at (past is_blank bytes) x e

pub plain_takes : (t : Token) (bytes rest : List ℕ) → IsPlain t → look bytes ≡ Ok (t, rest) → Takes bytes t rest
plain_takes (quoted q) bytes rest p e = absurd p
plain_takes (word w) bytes rest p e = e
plain_takes (digits n) bytes rest p e = e
plain_takes (signed s n) bytes rest p e = e
plain_takes arrow bytes rest p e = e
plain_takes (sign b) bytes rest p e = e

pub plain_looks : (t : Token) (bytes rest : List ℕ) → IsPlain t → Takes bytes t rest → look bytes ≡ Ok (t, rest)
plain_looks (quoted q) bytes rest p e = absurd p
plain_looks (word w) bytes rest p e = e
plain_looks (digits n) bytes rest p e = e
plain_looks (signed s n) bytes rest p e = e
plain_looks arrow bytes rest p e = e
plain_looks (sign b) bytes rest p e = e

-- where no token comes the text ends
ends_at : (bytes : List ℕ) (f : Fault) → token_at bytes ≡ Err f → (f ≡ Unexpected) × (bytes ≡ [])
ends_at [] f e = let k : Unexpected ≡ f = cc in (sym k, refl)
ends_at (b ∷ bs) f e =
    elim (chosen (is_letter b) _ _ _ e) [
      | inl w ↦ absurd (let v = w.1 in cc)
      | inr e1 ↦ elim (chosen (is_digit b) _ _ _ e1.1) [
        | inl w ↦ absurd (let v = w.1 in cc)
        | inr e2 ↦ elim (chosen (is_mark b && begins is_digit bs) _ _ _ e2.1) [
          | inl w ↦ absurd (let v = w.1 in cc)
          | inr e3 ↦ elim (chosen (nat_eq b 45 && begins (λ c. nat_eq c 62) bs) _ _ _ e3.1) [
            | inl w ↦ absurd (let v = w.1 in cc)
            | inr w ↦ absurd (let v = w.1 in cc)
          ]
        ]
      ]
    ]

pub ends : (bytes : List ℕ) (f : Fault) → look bytes ≡ Err f → (f ≡ Unexpected) × (past is_blank bytes ≡ [])
unfolding look
ends bytes f e = ends_at (past is_blank bytes) f e

pub looks_end : (bytes : List ℕ) → past is_blank bytes ≡ [] → look bytes ≡ Err Unexpected
unfolding look
looks_end bytes e = rw e refl

module _ {P : Type 0} (w : Way P) (h : Token → List ℕ → Result P Fault) where
  -- a token is taken, and something is made of it; or it is wrong
  abbrev pub Answers : Token → Type 0
  Answers t = ((v : P) × ((r : List ℕ) → h t r ≡ Ok (w.put v r))) ⊎
      ((f : Fault) × IsWrong f (t ∷ []) × ((r : List ℕ) → h t r ≡ Err f))

  abbrev one_token : List ℕ → Result P Fault
  one_token z = look z >>= λ t. h t.0 t.1

  firm_token : ((t : Token) → Answers t) → Firm w one_token
  firm_token answers bytes x e =
      let p = bind_ok (look bytes) (λ t. h t.0 t.1) x e in
      let t = p.0.0 in
      let is = plain bytes p.0 p.1 in
      elim (answers t) [
        | inl a ↦
            let same : w.put a.0 p.0.1 ≡ x = ok_is _ x (sym (a.1 p.0.1) ∙ p.2) in
            let rest : p.0.1 ≡ w.out x = sym (w.outs a.0 p.0.1) ∙ ap w.out same in
            record {
              tokens = t ∷ [];
              begins = (p.0.1, plain_takes t bytes p.0.1 is p.1, rest);
              again = λ o r b n.
                  ok_first (look o) (λ t. h t.0 t.1) (t, b.0) _ (plain_looks t o b.0 is b.1) (a.1 b.0) ∙
                  (ap (λ (u : List ℕ). done (w.put a.0 u)) b.2 ∙ ap done (sym (w.puts a.0 p.0.1 r)) ∙
                  ap (λ (u : P). done (w.put u r)) same);
            }
        | inr a ↦ absurd (let k = sym (a.2 p.0.1) ∙ p.2 in cc)
      ]

  stops_token : ((t : Token) → Answers t) → Stopping one_token
  stops_token answers bytes f e =
      elim (bind_err (look bytes) (λ t. h t.0 t.1) f e) [
        | inl p ↦
            let k = ends bytes f p in
            record {
              tokens = [];
              rest = bytes;
              begins = refl;
              behind = the_end;
              comes = k.1;
              cause = k.0;
              decided = λ o r b c.
                  err_first (look o) (λ t. h t.0 t.1) f
                  (ap look b ∙ looks_end r c ∙ ap fault (sym k.0));
            }
        | inr p ↦
            let t = p.0.0 in
            let is = plain bytes p.0 p.1 in
            elim (answers t) [
              | inl a ↦ absurd (let k = sym (a.1 p.0.1) ∙ p.2 in cc)
              | inr a ↦
                  let same : a.0 ≡ f = let k = sym (a.2 p.0.1) ∙ p.2 in cc in
                  record {
                    tokens = t ∷ [];
                    rest = p.0.1;
                    begins = (p.0.1, plain_takes t bytes p.0.1 is p.1, refl);
                    behind = anything;
                    comes = tt;
                    cause = ([], t ∷ [], subst (λ (g : Fault). IsWrong g (t ∷ [])) same a.1, refl);
                    decided = λ o r b c.
                        ok_first (look o) (λ t. h t.0 t.1) (t, b.0) (Err f) (plain_looks t o b.0 is b.1)
                        (a.2 b.0 ∙ ap fault same);
                  }
            ]
      ]

  pub steady_token : ((t : Token) → Answers t) → Steady w one_token
  steady_token answers = record { firm = firm_token answers; stops = stops_token answers }
