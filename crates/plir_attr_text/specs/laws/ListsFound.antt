-- Things one behind another, and lists, that are read stand there.
use Rattle.std.proofs.Common.{◌≡◌, ℕ, zero, suc, Bool, true, false, List, [], ◌∷◌, ◌++◌, length, Option, Some, None}
use Rattle.std.proofs.Common.{Result, Ok, refl, sym, ap, subst, ◌∙◌, append_assoc}
use Rattle.plir_attr_text.specs.Lists.{sign_at, past_sign, separator_at, with_first, if_more, more_at, unless_closed}
use Rattle.plir_attr_text.specs.Lists.{items_at}
use Rattle.plir_attr_text.specs.laws.Begun.{Begins-append, sign_found, past_sign_found, separator, separator_found}
use Rattle.plir_attr_text.specs.{declared.fault.Fault.Fault, Bytes.is_blank, Bytes.past, Steps.◌>>=◌, Tokens.Token}
use Rattle.plir_attr_text.specs.{Tokens.sign, Tokens.look, Tokens.Begins, TypeGrammar.enclosed, TypeGrammar.IsText}
use Rattle.plir_attr_text.specs.{AttrGrammar.SpellsMore, AttrGrammar.SpellsSeveral, Wholes.if_none_left, Wholes.end_at}
use Rattle.plir_attr_text.specs.{Wholes.whole, laws.StepLaws.bind_ok, laws.StepLaws.ok_is}

-- a reader finds things that tokens stand for
pub record FoundOne {A : Type 0} (E : A → List Token → Type 0) (bytes : List ℕ) (x : A) (rest : List ℕ) : Type 0 where
  pub tokens : List Token
  pub begins : Begins bytes tokens rest
  pub spelled : E x tokens

abbrev pub IsSound : {A : Type 0} → (A → List Token → Type 0) → (List ℕ → Result (A × List ℕ) Fault) → Type 0
IsSound {A} E read = (bytes : List ℕ) (x : A × List ℕ) → read bytes ≡ Ok x → FoundOne E bytes x.0 x.1

abbrev pub More : {A : Type 0} → (A → List Token → Type 0) → List A → List Token → Type 0
More {A} E xs ts = SpellsMore E xs ts

abbrev pub Several : {A : Type 0} → (A → List Token → Type 0) → List A → List Token → Type 0
Several {A} E xs ts = SpellsSeveral E xs ts

-- things one behind another, by what is so of each
module _ {A : Type 0} (P Q : A → List Token → Type 0) (each : (x : A) (ts : List Token) → P x ts → Q x ts) where
  more_as : (xs : List A) (ts : List Token) → More P xs ts → More Q xs ts
  more_as [] ts h = h
  more_as (x ∷ xs) ts h = (h.0, h.1, each x h.0 h.2, more_as xs h.1 h.3, h.4)

  pub several_as : (xs : List A) (ts : List Token) → Several P xs ts → Several Q xs ts
  several_as [] ts h = h
  several_as (x ∷ xs) ts h = (h.0, h.1, each x h.0 h.2, more_as xs h.1 h.3, h.4)

none_left_is : (rest : List ℕ) (u : Unit {0}) → if_none_left rest ≡ Ok u → rest ≡ []
none_left_is [] u e = refl
none_left_is (b ∷ bs) u e = absurd cc

-- ---- things one behind another

module _ {A : Type 0} (E : A → List Token → Type 0) (between : Bool → List Token) where
  -- what stands behind a thing: one more, or the end
  abbrev pub After : List A → List Token → Type 0
  After [] ts = ts ≡ between false
  After (y ∷ ys) ts = (first more : List Token) × E y first × After ys more × (ts ≡ between true ++ (first ++ more))

  abbrev pub Chain : List A → List Token → Type 0
  Chain [] ts = ⊥
  Chain (x ∷ xs) ts = (first more : List Token) × E x first × After xs more × (ts ≡ first ++ more)

  module _ (goes : List ℕ → Result (Bool × List ℕ) Fault) (parts : (bytes : List ℕ) (s : Bool × List ℕ) →
      goes bytes ≡ Ok s → Begins bytes (between s.0) s.1) (read : List ℕ → Result (A × List ℕ) Fault)
      (sound : IsSound E read) where
    chained : (x : A) (ys : List A) (bytes after behind rest : List ℕ) → FoundOne E bytes x after →
        Begins after (between true) behind → FoundOne Chain behind ys rest → FoundOne Chain bytes (x ∷ ys) rest
    chained x [] bytes after behind rest f b g = absurd g.spelled
    chained x (y ∷ ys) bytes after behind rest f b g =
        let h = g.spelled in
        record {
          tokens = f.tokens ++ (between true ++ g.tokens);
          begins = Begins-append f.tokens (between true ++ g.tokens) bytes after rest f.begins
              (Begins-append (between true) g.tokens after behind rest b g.begins);
          spelled = (
            f.tokens,
            between true ++ g.tokens,
            f.spelled,
            (h.0, h.1, h.2, h.3, ap (λ (ts : List Token). between true ++ ts) h.4),
            refl,
          );
        }

    last_chained : (x : A) (bytes after behind : List ℕ) → FoundOne E bytes x after →
        Begins after (between false) behind → FoundOne Chain bytes (x ∷ []) behind
    last_chained x bytes after behind f b = record {
      tokens = f.tokens ++ between false;
      begins = Begins-append f.tokens (between false) bytes after behind f.begins b;
      spelled = (f.tokens, between false, f.spelled, refl, refl);
    }

    pub several_found : (m : ℕ) → IsSound Chain (more_at goes read m)
    unfolding more_at
    several_found zero bytes xs e = absurd cc
    several_found (suc m) bytes xs e =
        let a = bind_ok (read bytes) (λ x. goes x.1 >>= λ s. with_first x.0 (if_more s.0 (more_at goes read m s.1) s.1))
        xs e in
        let b = bind_ok (goes a.0.1) (λ s. with_first a.0.0 (if_more s.0 (more_at goes read m s.1) s.1)) xs a.2 in
        let d = bind_ok (if_more b.0.0 (more_at goes read m b.0.1) b.0.1) (λ ys. Ok (a.0.0 ∷ ys.0, ys.1)) xs b.2 in
        subst (λ (y : List A × List ℕ). FoundOne Chain bytes y.0 y.1) (ok_is (a.0.0 ∷ d.0.0, d.0.1) xs d.2)
        (at b.0.0 a.0 b.0.1 d.0 (sound bytes a.0 a.1) (parts a.0.1 b.0 b.1) d.1 (several_found m b.0.1 d.0))
      where
        at : (more : Bool) (x : A × List ℕ) (behind : List ℕ) (ys : List A × List ℕ) → FoundOne E bytes x.0 x.1 →
            Begins x.1 (between more) behind → if_more more (more_at goes read m behind) behind ≡ Ok ys
            → (more_at goes read m behind ≡ Ok ys → FoundOne Chain behind ys.0 ys.1) →
            FoundOne Chain bytes (x.0 ∷ ys.0) ys.1
        at true x behind ys f s h g = chained x.0 ys.0 bytes x.1 behind ys.1 f s (g h)
        at false x behind ys f s h g = subst (λ (y : List A × List ℕ). FoundOne Chain bytes (x.0 ∷ y.0) y.1) (ok_is (
          [],
          behind,
        ) ys h) (last_chained x.0 bytes x.1 behind f s)

-- ---- lists in brackets

module _ {A : Type 0} (E : A → List Token → Type 0) (close : ℕ) where
  -- a comma, or the sign that closes the list
  abbrev by_comma : Bool → List Token
  by_comma b = sign (separator close b) ∷ []

  comma_found : (bytes : List ℕ) (s : Bool × List ℕ) → separator_at close bytes ≡ Ok s → Begins bytes (by_comma s.0) s.1
  comma_found bytes s e = (s.1, separator_found close bytes s e, refl)

  after_item : (ys : List A) (ts : List Token) → After E by_comma ys ts →
      (inner : List Token) × More E ys inner × (ts ≡ inner ++ sign close ∷ [])
  after_item [] ts h = ([], refl, h)
  after_item (y ∷ ys) ts h =
      let m = after_item ys h.1 h.3 in (
        sign 44 ∷ (h.0 ++ m.0),
        (h.0, m.0, h.2, m.1, refl),
        h.4 ∙ ap (λ (l : List Token). sign 44 ∷ (h.0 ++ l)) m.2 ∙
            ap (λ (l : List Token). sign 44 ∷ l) (sym (append_assoc h.0 m.0 (sign close ∷ []))),
      )

  up_to_close : (xs : List A) (ts : List Token) → Chain E by_comma xs ts →
      (inner : List Token) × Several E xs inner × (ts ≡ inner ++ sign close ∷ [])
  up_to_close [] ts h = absurd h
  up_to_close (x ∷ xs) ts h =
      let m = after_item xs h.1 h.3 in (
        h.0 ++ m.0,
        (h.0, m.0, h.2, m.1, refl),
        h.4 ∙ ap (λ (l : List Token). h.0 ++ l) m.2 ∙
            sym (append_assoc h.0 m.0 (sign close ∷ [])),
      )

  module _ (read : List ℕ → Result (A × List ℕ) Fault) (sound : IsSound E read) where
    -- items in brackets
    pub record FoundItems (open_ : ℕ) (bytes : List ℕ) (xs : List A) (rest : List ℕ) : Type 0 where
      pub tokens : List Token
      pub begins : Begins bytes (enclosed open_ tokens close) rest
      pub spelled : Several E xs tokens

    pub items_found : (open_ : ℕ) (bytes : List ℕ) (xs : List A × List ℕ) → items_at open_ close read bytes ≡ Ok xs →
        FoundItems open_ bytes xs.0 xs.1
    unfolding items_at
    items_found open_ bytes xs e =
        let a = bind_ok (sign_at open_ bytes) (λ start. unless_closed (past_sign close start)
        (more_at (separator_at close) read (suc (length start)) start)) xs e in
        at a.0 (sign_found open_ bytes a.0 a.1) (past_sign close a.0) refl a.2
      where
        at : (start : List ℕ) → look bytes ≡ Ok (sign open_, start) → (o : Option (List ℕ)) →
            past_sign close start ≡ o → unless_closed o (more_at (separator_at close) read (suc (length start)) start) ≡
            Ok xs → FoundItems open_ bytes xs.0 xs.1
        at start s (Some rest) p h =
            let none : FoundItems open_ bytes [] rest =
            record {
              tokens = [];
              begins = (start, s, (rest, past_sign_found close start rest p, refl));
              spelled = refl;
            } in
            subst (λ (y : List A × List ℕ). FoundItems open_ bytes y.0 y.1) (ok_is ([], rest) xs h) none
        at start s None p h =
            let g = several_found E by_comma (separator_at close) comma_found read sound (suc (length start)) start xs h
            in
            let inner = up_to_close xs.0 g.tokens g.spelled in
            record {
              tokens = inner.0;
              begins = (
                start,
                s,
                subst (λ (ts : List Token). Begins start ts xs.1) inner.2
                    g.begins,
              );
              spelled = inner.1;
            }

    -- what is read of a whole text is what the text stands for
    pub whole_found : (bytes : List ℕ) (x : A) → whole read bytes ≡ Ok x → IsText E bytes x
    unfolding whole end_at
    whole_found bytes x e =
        let a = bind_ok (read bytes) (λ y. end_at y.1 >>= λ u. Ok y.0) x e in
        let b = bind_ok (end_at a.0.1) (λ u. Ok a.0.0) x a.2 in
        let f = sound bytes a.0 a.1 in
        record {
          tokens = f.tokens;
          are_tokens = record
              { rest = a.0.1; begins = f.begins; blank = none_left_is (past is_blank a.0.1) b.0 b.1 };
          spelled =
              subst (λ (y : A). E y f.tokens) (ok_is _ x b.2) f.spelled;
        }
