-- Lists that stand there are read.
use Rattle.std.proofs.Common.{◌≡◌, ℕ, zero, suc, ◌-◌, ◌<◌, ◌≤◌, false, nat_eq, List, [], ◌∷◌, ◌++◌, length, None}
use Rattle.std.proofs.Common.{Result, Ok, Err, refl, sym, ap, subst, ◌∙◌, arith, append_assoc}
use Rattle.plir_attr_text.specs.Lists.{past_sign, separator_at, with_first, if_more, more_at, items_at}
use Rattle.plir_attr_text.specs.laws.Begun.{Begins-split, Begins-length, Takes-shorter, sign_again, past_sign_again}
use Rattle.plir_attr_text.specs.laws.Begun.{no_sign, closed_again, comma_again}
use Rattle.plir_attr_text.specs.{declared.fault.Fault.Fault, Steps.◌>>=◌, Tokens.Token, Tokens.word, Tokens.sign}
use Rattle.plir_attr_text.specs.{Tokens.Begins, TypeGrammar.enclosed, TypeGrammar.IsText, Wholes.end_at, Wholes.whole}
use Rattle.plir_attr_text.specs.{laws.StepLaws.done, laws.StepLaws.ok_is, laws.ListsFound.More, laws.ListsFound.Several}

-- where the tokens stand the thing is read, and no list is closed there
pub record IsRead {A : Type 0} (close : ℕ) (read : List ℕ → Result (A × List ℕ) Fault) (x : A) (ts : List Token) : Type
    0 where
  pub reads : (bytes rest : List ℕ) → Begins bytes ts rest → read bytes ≡ Ok (x, rest)
  pub opens : (bytes rest : List ℕ) → Begins bytes ts rest → past_sign close bytes ≡ None

module _ {A : Type 0} (close : ℕ) (other : nat_eq 44 close ≡ false) (read : List ℕ → Result (A × List ℕ) Fault) where
  -- what is read behind an item
  abbrev behind : ℕ → A → List ℕ → Result (List A × List ℕ) Fault
  behind m x bytes = separator_at close bytes >>=
      λ s. with_first x (if_more s.0 (more_at (separator_at close) read m s.1) s.1)

  more_at-suc : (m : ℕ) (bytes after : List ℕ) (x : A) → 0 < m → read bytes ≡ Ok (x, after) →
      more_at (separator_at close) read m bytes ≡ behind (m - 1) x after
  unfolding more_at
  more_at-suc zero bytes after x lt e = absurd (omega arith)
  more_at-suc (suc m) bytes after x lt e = let k : suc m - 1 ≡ m = omega arith in rw (e, k) refl

  more_read : (xs : List A) (x : A) (ts : List Token) (m : ℕ) (bytes rest : List ℕ) → More (IsRead close read) xs ts →
      length bytes ≤ m → Begins bytes (ts ++ sign close ∷ []) rest → behind m x bytes ≡ Ok (x ∷ xs, rest)
  more_read [] x ts m bytes rest h le b =
      let c = subst (λ (y : List Token). Begins bytes (y ++ sign close ∷ []) rest) h b in
      rw (closed_again close bytes c.0 c.1) (ap (λ (y : List ℕ). done (x ∷ [], y)) c.2)
  more_read (y ∷ ys) x ts m bytes rest h le b =
      let c = subst (λ (y : List Token). Begins bytes (y ++ sign close ∷ []) rest) h.4 b in
      let d = Begins-split h.0 (h.1 ++ sign close ∷ []) c.0 rest (subst (λ (y : List Token). Begins c.0 y rest)
      (append_assoc h.0 h.1 (sign close ∷ [])) c.2) in
      let lt = Takes-shorter bytes (sign 44) c.0 c.1 in
      let next : more_at (separator_at close) read m c.0 ≡ Ok (y ∷ ys, rest) =
      more_at-suc m c.0 d.0 y (omega arith) (h.2.reads c.0 d.0 d.1) ∙
      more_read ys y h.1 (m - 1) d.0 rest h.3 (omega (arith, Begins-length h.0 c.0 d.0 d.1)) d.2 in
      rw (comma_again close bytes c.0 other c.1, next) refl

  pub several_read : (open_ : ℕ) (xs : List A) (ts : List Token) (bytes rest : List ℕ) →
      Several (IsRead close read) xs ts → Begins bytes (enclosed open_ ts close) rest →
      items_at open_ close read bytes ≡ Ok (xs, rest)
  unfolding items_at
  several_read open_ [] ts bytes rest h b =
      let c = subst (λ (y : List Token). Begins bytes (enclosed open_ y close) rest) h b in
      rw (sign_again open_ bytes c.0 c.1, past_sign_again close c.0 c.2.0 c.2.1) (ap (λ (y : List ℕ). done ([], y))
      c.2.2)
  several_read open_ (x ∷ xs) ts bytes rest h b =
      let c = subst (λ (y : List Token). Begins bytes (enclosed open_ y close) rest) h.4 b in
      let d = Begins-split h.0 (h.1 ++ sign close ∷ []) c.0 rest (subst (λ (y : List Token). Begins c.0 y rest)
      (append_assoc h.0 h.1 (sign close ∷ [])) c.2) in
      let k : suc (length c.0) - 1 ≡ length c.0 = omega arith in
      let all : more_at (separator_at close) read (suc (length c.0)) c.0 ≡ Ok (x ∷ xs, rest) =
      more_at-suc (suc (length c.0)) c.0 d.0 x (omega arith) (h.2.reads c.0 d.0 d.1) ∙
      rw k (more_read xs x h.1 (length c.0) d.0 rest h.3 (omega (arith, Begins-length h.0 c.0 d.0 d.1)) d.2) in
      rw (sign_again open_ bytes c.0 c.1, h.2.opens c.0 d.0 d.1, all) refl

-- a word closes no list
pub word_opens : (close : ℕ) (w : List ℕ) (ts : List Token) (bytes rest : List ℕ) → Begins bytes (word w ∷ ts) rest →
    past_sign close bytes ≡ None
word_opens close w ts bytes rest b = no_sign close bytes (word w, b.0) b.1 refl

module _ {A : Type 0} (read : List ℕ → Result (A × List ℕ) Fault) (E : A → List Token →
    Type 0) (again : (x : A) (ts : List Token) (bytes rest : List ℕ) → E x ts → Begins bytes ts rest →
    read bytes ≡ Ok (x, rest)) where
  -- what a whole text stands for is read
  pub whole_again : (bytes : List ℕ) (x : A) → IsText E bytes x → whole read bytes ≡ Ok x
  unfolding whole end_at
  whole_again bytes x s = rw (
    again x s.tokens bytes s.are_tokens.rest s.spelled s.are_tokens.begins,
    s.are_tokens.blank,
  ) refl

  -- a text that is refused stands for nothing
  pub refused : (bytes : List ℕ) (f : Fault) → whole read bytes ≡ Err f → (x : A) → IsText E bytes x → ⊥
  refused bytes f e x s = let both = sym e ∙ whole_again bytes x s in cc

  -- a text stands for one thing at most
  pub only_one : (bytes : List ℕ) (x y : A) → IsText E bytes x → IsText E bytes y → x ≡ y
  only_one bytes x y s t = ok_is x y (sym (whole_again bytes x s) ∙ whole_again bytes y t)
