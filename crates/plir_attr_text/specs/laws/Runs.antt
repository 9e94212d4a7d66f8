-- Tokens of things that are printed one behind the other.
use Rattle.std.proofs.Common.{◌≡◌, ◌||◌, ℕ, suc, true, false, List, [], ◌∷◌, ◌++◌, All, Ok, refl, sym, codes, subst}
use Rattle.std.proofs.Common.{arith, append_assoc, ◌∙◌}
use Rattle.plir_data.specs.Identifier.{is_letter, is_digit, all_in_identifier, is_identifier}
use Rattle.plir_data.specs.TextParts.{parted, parted_from}
use Rattle.plir_attr_text.specs.Tokens.{Token, word, digits, signed, quoted, arrow, sign, look, Takes, Begins}
use Rattle.plir_attr_text.specs.laws.Printed.{Ends, has_one_point, is_word, look-word, look-spaced}
use Rattle.plir_attr_text.specs.{AttrGrammar.SpellsMore, AttrGrammar.SpellsSeveral, Bytes.is_in_word}
use Rattle.plir_attr_text.specs.{TypeGrammar.enclosed, laws.Begun.Begins-append, laws.TypesAgain.parts}
use Rattle.plir_attr_text.specs.laws.Lexing.{look-sign}

-- a text that is tokens which spell something, where no word goes on behind it
pub record Run (E : List Token → Type 0) (text : List ℕ) : Type 0 where
  pub tokens : List Token
  pub spelled : E tokens
  pub begun : (rest : List ℕ) → Ends is_in_word rest → Begins (text ++ rest) tokens rest

-- the same with a first token
pub record Shown (E : List Token → Type 0) (text : List ℕ) : Type 0 where
  pub first : Token
  pub others : List Token
  pub spelled : E (first ∷ others)
  pub begun : (rest : List ℕ) → Ends is_in_word rest → Begins (text ++ rest) (first ∷ others) rest

-- the same of what no word goes on with
pub record Tail (E : List Token → Type 0) (text : List ℕ) : Type 0 where
  pub run : Run E text
  pub ends : (rest : List ℕ) → Ends is_in_word rest → Ends is_in_word (text ++ rest)

pub Shown-as : {E F : List Token → Type 0} {text : List ℕ} → ((ts : List Token) → E ts → F ts) → Shown E text →
    Shown F text
Shown-as as_ p = record {
  first = p.first;
  others = p.others;
  spelled = as_ (p.first ∷
      p.others) p.spelled;
  begun = p.begun;
}

pub Run-as : {E F : List Token → Type 0} {text : List ℕ} → ((ts : List Token) → E ts → F ts) → Run E text → Run F text
Run-as as_ p = record { tokens = p.tokens; spelled = as_ p.tokens p.spelled; begun = p.begun }

pub Tail-as : {E F : List Token → Type 0} {text : List ℕ} → ((ts : List Token) → E ts → F ts) → Tail E text →
    Tail F text
Tail-as as_ p = record { run = Run-as as_ p.run; ends = p.ends }

-- ---- a space before a token

takes-spaced : (bytes : List ℕ) (t : Token) (rest : List ℕ) → Takes bytes t rest → Takes (32 ∷ bytes) t rest
takes-spaced bytes (quoted q) rest p = (p.0, look-spaced bytes ∙ p.1, p.2)
takes-spaced bytes (word w) rest p = look-spaced bytes ∙ p
takes-spaced bytes (digits n) rest p = look-spaced bytes ∙ p
takes-spaced bytes (signed s n) rest p = look-spaced bytes ∙ p
takes-spaced bytes arrow rest p = look-spaced bytes ∙ p
takes-spaced bytes (sign b) rest p = look-spaced bytes ∙ p

pub begins-spaced : (bytes : List ℕ) (t : Token) (ts : List Token) (rest : List ℕ) → Begins bytes (t ∷ ts) rest →
    Begins (32 ∷ bytes) (t ∷ ts) rest
begins-spaced bytes t ts rest p = (p.0, takes-spaced bytes t p.0 p.1, p.2)

-- ---- words

pub word-shown : (w : List ℕ) → is_word w ≡ true → Shown (λ ts. ts ≡ word w ∷ []) w
word-shown w h = record {
  first = word w;
  others = [];
  spelled = refl;
  begun = λ rest e. (
    rest,
    look-word w rest h e,
    refl,
  );
}

name_in_word : (w : List ℕ) → all_in_identifier w ≡ true → has_one_point w ≡ true
name_in_word [] h = refl
name_in_word (b ∷ w) h = let g = parts (is_letter b || is_digit b) (all_in_identifier w) h in
    rw (g.0, name_in_word w g.1) refl

pub identifier_is_word : (w : List ℕ) → is_identifier w ≡ true → is_word w ≡ true
identifier_is_word [] h = absurd cc
identifier_is_word (b ∷ w) h = let g = parts (is_letter b) (all_in_identifier w) h in rw (g.0, name_in_word w g.1) refl

-- an id, a space, and what stands behind it
pub behind_id : {E : List Token → Type 0} {text : List ℕ} (id : List ℕ) → is_word id ≡ true → Shown E text →
    Shown (λ ts. (behind : List Token) × E behind × (ts ≡ word id ∷ behind)) (id ++ 32 ∷ text)
behind_id {E} {text} id h p = record {
  first = word id;
  others = p.first ∷ p.others;
  spelled = (p.first ∷ p.others, p.spelled, refl);
  begun = λ rest e. subst (λ bytes. Begins bytes (word id ∷ p.first ∷ p.others) rest)
      (sym (append_assoc id (32 ∷ text) rest)) (
        32 ∷ (text ++ rest),
        look-word id (32 ∷ (text ++ rest)) h refl,
        begins-spaced (text ++ rest) p.first p.others rest (p.begun rest e),
      );
}

-- ---- lists

-- what stands before a sign, and the sign
pub closed_by : {E : List Token → Type 0} {text : List ℕ} (c : ℕ) → is_in_word c ≡ false →
    ((rest : List ℕ) → look (c ∷ rest) ≡ Ok (sign c, rest)) → (r : Run E text) (rest : List ℕ) →
    Begins (text ++ c ∷ rest) (r.tokens ++ sign c ∷ []) rest
closed_by {E} {text} c none seen r rest = Begins-append r.tokens (sign c ∷ []) (text ++ c ∷ rest) (c ∷
    rest) rest (r.begun (c ∷ rest) none) (rest, seen rest, refl)

-- a list in brackets behind an id
pub listed : {E : List Token → Type 0} {text : List ℕ} (id : List ℕ) → is_word id ≡ true → Run E text →
    Shown (λ ts. (inner : List Token) × E inner × (ts ≡ word id ∷ enclosed 91 inner 93)) (id ++ 32 ∷ 91 ∷
    (text ++ 93 ∷ []))
listed {E} {text} id h r = record {
  first = word id;
  others = enclosed 91 r.tokens 93;
  spelled = (r.tokens, r.spelled, refl);
  begun = λ rest e. subst (λ bytes. Begins bytes (word id ∷ enclosed 91 r.tokens 93) rest)
      (sym (append_assoc id (32 ∷ 91 ∷ (text ++ 93 ∷ [])) rest)) (
        32 ∷ 91 ∷ ((text ++ 93 ∷ []) ++ rest),
        look-word id (32 ∷ 91 ∷ ((text ++ 93 ∷ []) ++ rest)) h refl,
        (
          (text ++ 93 ∷ []) ++ rest,
          look-spaced (91 ∷ ((text ++ 93 ∷ []) ++ rest)) ∙ look-sign 91 refl ((text ++ 93 ∷ []) ++
              rest),
          subst (λ bytes. Begins bytes (r.tokens ++ sign 93 ∷ []) rest) (sym (append_assoc text (93 ∷ []) rest))
              (closed_by 93 refl (look-sign 93 refl) r rest),
        ),
      );
}

pub nothing : Tail (λ ts. ts ≡ []) []
nothing = record { run = record { tokens = []; spelled = refl; begun = λ rest e. refl }; ends = λ rest e. e }

module _ {E F : List Token → Type 0} {text more : List ℕ} (p : Shown E text) (m : Tail F more) where
  both : (rest : List ℕ) → Ends is_in_word rest → Begins ((text ++ more) ++ rest) ((p.first ∷ p.others) ++
      m.run.tokens) rest
  both rest e =
      subst (λ bytes. Begins bytes ((p.first ∷ p.others) ++ m.run.tokens) rest) (sym (append_assoc text more rest))
      (Begins-append (p.first ∷ p.others) m.run.tokens (text ++ (more ++ rest)) (more ++
      rest) rest (p.begun (more ++ rest) (m.ends rest e)) (m.run.begun rest e))

  pub behind_first : Run (λ ts. (first others : List Token) × E first × F others × (ts ≡ first ++ others)) (text ++
      more)
  behind_first = record {
    tokens = (p.first ∷ p.others) ++ m.run.tokens;
    spelled = (
      p.first ∷ p.others,
      m.run.tokens,
      p.spelled,
      m.run.spelled,
      refl,
    );
    begun = both;
  }

  pub behind_comma : Tail (λ ts. (first others : List Token) × E first × F others × (ts ≡ sign 44 ∷ (first ++ others)))
      (44 ∷ 32 ∷ (text ++ more))
  behind_comma = record {
    run = record {
      tokens = sign 44 ∷ ((p.first ∷ p.others) ++ m.run.tokens);
      spelled = (p.first ∷ p.others, m.run.tokens, p.spelled, m.run.spelled, refl);
      begun = λ rest e. (
        32 ∷ ((text ++ more) ++ rest),
        look-sign 44 refl (32 ∷ ((text ++ more) ++ rest)),
        begins-spaced ((text ++ more) ++ rest) p.first (p.others ++ m.run.tokens) rest (both rest e),
      );
    };
    ends = λ rest e. refl;
  }

-- things with commas between them
module _ {X : Type 0} (E : X → List Token → Type 0) (write : X → List ℕ) (P : X → Type 0) (each : (x : X) → P x →
    Shown (E x) (write x)) where
  more-shown : (xs : List X) → All P xs → Tail (SpellsMore E xs) (parted_from false (codes ", ") write xs)
  more-shown [] all = nothing
  more-shown (x ∷ xs) all =
      behind_comma (each x (all 0 x (omega arith))) (more-shown xs (λ k d lt. all (suc k) d (omega (arith, lt))))

  pub several-shown : (xs : List X) → All P xs → Run (SpellsSeveral E xs) (parted (codes ", ") write xs)
  several-shown [] all = nothing.run
  several-shown (x ∷ xs) all =
      behind_first (each x (all 0 x (omega arith))) (more-shown xs (λ k d lt. all (suc k) d (omega (arith, lt))))
