-- The tokens decide what is read of types, and which fault is met in one.
use Rattle.std.proofs.Common.{◌≡◌, ◌⊎◌, ℕ, zero, suc, ◌^◌, nat_eq, nat_lt, Bool, true, false, cond, List, []}
use Rattle.std.proofs.Common.{◌∷◌, ◌++◌, length, codes, Option, Some, None, is_some, Result, Ok, Err, refl, ap}
use Rattle.std.proofs.Common.{subst, ◌∙◌, inl, inr}
use Rattle.std.specs.Str.{bytes_eq}
use Rattle.std.proofs.lemmas.Bool.{ltb-false}
use Rattle.std.proofs.lemmas.Bool.Decides.{Decides-eqb}
use Rattle.plir_data.specs.Identifier.{is_digit}
use Rattle.plir_data.specs.TypeText.{letters}
use Rattle.plir_data.specs.declared.types.Signedness.{Signedness}
use Rattle.plir_data.specs.declared.types.Signedness.TheVariants.{Signed, Unsigned, Signless}
use Rattle.plir_attr_text.specs.declared.fault.Fault.{Fault}
use Rattle.plir_attr_text.specs.declared.fault.Fault.TheVariants.{Unexpected, TooDeep, IntegerOutOfRange}
use Rattle.plir_attr_text.specs.declared.words.TypeKind.{TypeKind}
use Rattle.plir_attr_text.specs.declared.words.TypeKind.TheVariants as type_kinds
use Rattle.plir_attr_text.specs.Bytes.{front, begins, all_pass, value_after}
use Rattle.plir_attr_text.specs.Lists.{is_sign, sign_at, behind_sign, past_sign, separator_at, more_at, unless_closed}
use Rattle.plir_attr_text.specs.Lists.{items_at}
use Rattle.plir_attr_text.specs.Steps.{◌>>=◌}
use Rattle.plir_attr_text.specs.Terms.{TypeTerm}
use Rattle.plir_attr_text.specs.Tokens.{Token, word, digits, signed, quoted, arrow, sign, look}
use Rattle.plir_attr_text.specs.TypeReading.{as_word, word_at, as_arrow, arrow_at, type_kind, width_of, integer_of}
use Rattle.plir_attr_text.specs.TypeReading.{integer_at, function_at, type_head, type_body, type_at}
use Rattle.plir_attr_text.specs.laws.StepLaws.{chosen}
use Rattle.plir_attr_text.specs.laws.TypesFound.{type_at-shorter}
use Rattle.plir_read.specs.FaultsMet.{IsWrong}
use Rattle.plir_read.proofs.Deciding.{next, next_of, fault, pairs, bare, Steady, steady_as, steady_bind, steady_done}
use Rattle.plir_read.proofs.Deciding.{steady_choice}
use Rattle.plir_read.proofs.OneToken.{Answers, steady_token}
use Rattle.plir_read.proofs.OneByOne.{Shrinks, steady_more}

-- ---- tokens

pub steady_sign : (b : ℕ) → Steady bare (sign_at b)
unfolding sign_at
steady_sign b = steady_token bare (λ t r. cond (is_sign b t) (Ok r) (Err Unexpected)) (λ t. at t (is_sign b t) refl)
  where
    at : (t : Token) (c : Bool) → is_sign b t ≡ c →
        Answers bare (λ t r. cond (is_sign b t) (Ok r) (Err Unexpected)) t
    at t true e = inl ([], λ r. rw e refl)
    at t false e = inr (Unexpected, (t, refl), λ r. rw e refl)

pub steady_separator : (close : ℕ) → Steady pairs (separator_at close)
unfolding separator_at
steady_separator close =
    steady_token pairs (λ t r. cond (is_sign close t) (Ok (false, r))
    (cond (is_sign 44 t) (Ok (true, r)) (Err Unexpected))) (λ t. at t (is_sign close t) (is_sign 44 t) refl refl)
  where
    at : (t : Token) (c d : Bool) → is_sign close t ≡ c → is_sign 44 t ≡ d →
        Answers pairs (λ t r. cond (is_sign close t) (Ok (false, r))
        (cond (is_sign 44 t) (Ok (true, r)) (Err Unexpected))) t
    at t true d e g = inl ((false, []), λ r. rw e refl)
    at t false true e g = inl ((true, []), λ r. rw (e, g) refl)
    at t false false e g = inr (Unexpected, (t, refl), λ r. rw (e, g) refl)

steady_arrow : Steady bare arrow_at
unfolding arrow_at
steady_arrow = steady_token bare as_arrow at
  where
    at : (t : Token) → Answers bare as_arrow t
    at arrow = inl ([], λ r. refl)
    at (word w) = inr (Unexpected, (word w, refl), λ r. refl)
    at (digits n) = inr (Unexpected, (digits n, refl), λ r. refl)
    at (signed s n) = inr (Unexpected, (signed s n, refl), λ r. refl)
    at (quoted q) = inr (Unexpected, (quoted q, refl), λ r. refl)
    at (sign b) = inr (Unexpected, (sign b, refl), λ r. refl)

-- ---- words

-- a word, of which something is made, or that is wrong
module _ {V : Type 0} (h : List ℕ → List ℕ → Result (V × List ℕ) Fault) where
  abbrev pub WordAnswers : List ℕ → Type 0
  WordAnswers w = ((v : V) × ((r : List ℕ) → h w r ≡ Ok (v, r))) ⊎
      ((f : Fault) × IsWrong f (word w ∷ []) × ((r : List ℕ) → h w r ≡ Err f))

  abbrev of_token : Token → List ℕ → Result (V × List ℕ) Fault
  of_token t r = as_word t r >>= λ w. h w.0 w.1

  word_is : (z : List ℕ) → (word_at z >>= λ w. h w.0 w.1) ≡ (look z >>= λ t. of_token t.0 t.1)
  unfolding word_at
  word_is z = at (look z)
    where
      at : (r : Result (Token × List ℕ) Fault) →
          ((r >>= λ t. as_word t.0 t.1) >>= λ w. h w.0 w.1) ≡ (r >>= λ t. of_token t.0 t.1)
      at (Ok t) = refl
      at (Err f) = refl

  pub steady_word : ((w : List ℕ) → WordAnswers w) → Steady pairs (λ z. word_at z >>= λ w. h w.0 w.1)
  steady_word answers =
      steady_as pairs (λ z. word_at z >>= λ w. h w.0 w.1) (λ z. look z >>= λ t. of_token t.0 t.1) word_is
      (steady_token pairs of_token at)
    where
      at : (t : Token) → Answers pairs of_token t
      at (word w) = elim (answers w) [
        | inl a ↦ inl ((a.0, []), a.1)
        | inr a ↦ inr a
      ]
      at arrow = inr (Unexpected, (arrow, refl), λ r. refl)
      at (digits n) = inr (Unexpected, (digits n, refl), λ r. refl)
      at (signed s n) = inr (Unexpected, (signed s n, refl), λ r. refl)
      at (quoted q) = inr (Unexpected, (quoted q, refl), λ r. refl)
      at (sign b) = inr (Unexpected, (sign b, refl), λ r. refl)

-- a word of which a kind or a number is made
module _ {V : Type 0} (make : List ℕ → Result V Fault) where
  pub steady_made : ((w : List ℕ) (f : Fault) → make w ≡ Err f → IsWrong f (word w ∷ [])) →
      Steady pairs (λ z. word_at z >>= λ w. make w.0 >>= λ v. Ok (v, w.1))
  steady_made wrong = steady_word (λ w r. make w >>= λ v. Ok (v, r)) (λ w. at w (make w) refl)
    where
      at : (w : List ℕ) (c : Result V Fault) → make w ≡ c → WordAnswers (λ w r. make w >>= λ v. Ok (v, r)) w
      at w (Ok v) e = inl (v, λ r. rw e refl)
      at w (Err f) e = inr (f, wrong w f e, λ r. rw e refl)

-- a word where no level is left
pub steady_deep : {V : Type 0} → Steady {P = V × List ℕ} pairs (λ z. word_at z >>= λ w. Err TooDeep)
steady_deep {V} = steady_word {V = V} (λ w r. Err TooDeep) (λ w. inr (TooDeep, (w, refl), λ r. refl))

-- ---- choices by signs

abbrev pub shows : ℕ → Option Token → Bool
shows b (Some t) = is_sign b t
shows b None = false

pub sign_shown : (b : ℕ) (z : List ℕ) → is_some (past_sign b z) ≡ shows b (next z)
unfolding past_sign
sign_shown b z = at (look z)
  where
    choice : (c : Bool) (r : List ℕ) → is_some (cond c (Some r) None) ≡ c
    choice true r = refl
    choice false r = refl

    at : (r : Result (Token × List ℕ) Fault) → is_some (behind_sign b r) ≡ shows b (next_of r)
    at (Ok t) = choice (is_sign b t.0) t.1
    at (Err f) = refl

-- a sign that closes, or something
module _ {A : Type 0} (close : ℕ) (x : A) (more : List ℕ → Result (A × List ℕ) Fault) where
  abbrev pub closed : Option (List ℕ) → Result (A × List ℕ) Fault → Result (A × List ℕ) Fault
  closed (Some rest) r = Ok (x, rest)
  closed None r = r

  closed_is : (z : List ℕ) → closed (past_sign close z) (more z) ≡
      cond (shows close (next z)) (sign_at close z >>= λ r. Ok (x, r)) (more z)
  unfolding past_sign sign_at
  closed_is z = at (look z) (more z)
    where
      choice : (c : Bool) (r : List ℕ) (m : Result (A × List ℕ) Fault) → closed (cond c (Some r) None) m ≡
          cond c (cond c (Ok r) (Err Unexpected) >>= λ r. Ok (x, r)) m
      choice true r m = refl
      choice false r m = refl

      at : (r : Result (Token × List ℕ) Fault) (m : Result (A × List ℕ) Fault) → closed (behind_sign close r) m ≡
          cond (shows close (next_of r)) ((r >>= λ t. cond (is_sign close t.0) (Ok t.1) (Err Unexpected)) >>=
          λ r. Ok (x, r)) m
      at (Ok t) m = choice (is_sign close t.0) t.1 m
      at (Err f) m = refl

  pub steady_closed : Steady pairs more → Steady pairs (λ z. closed (past_sign close z) (more z))
  steady_closed s =
      steady_as pairs (λ z. closed (past_sign close z) (more z)) _ closed_is
      (steady_choice pairs (shows close) (λ z. sign_at close z >>= λ r. Ok (x, r)) more
      (steady_bind bare (sign_at close) (steady_sign close) pairs (λ r. Ok (x, r)) (λ r. steady_done x)) s)

-- ---- lists

module _ {A : Type 0} (goes : List ℕ → Result (Bool × List ℕ) Fault) (parts : Steady pairs goes)
    (read : List ℕ → Result (A × List ℕ) Fault) (things : Steady pairs read) (shrinks : Shrinks read) where
  abbrev some_more : List ℕ → Result (List A × List ℕ) Fault
  some_more z = more_at goes read (suc (length z)) z

  -- things in brackets
  pub steady_enclosed : (open_ close : ℕ) →
      Steady pairs (λ z. sign_at open_ z >>= λ start. unless_closed (past_sign close start) (some_more start))
  steady_enclosed open_ close =
      steady_bind bare (sign_at open_) (steady_sign open_) pairs
      (λ start. unless_closed (past_sign close start) (some_more start))
      (λ s. steady_as pairs (λ z. unless_closed (past_sign close z) (some_more z))
      (λ z. closed {A = List A} close [] some_more (past_sign close z) (some_more z))
      (λ z. same (past_sign close z) (some_more z))
      (steady_closed close [] some_more (steady_more goes parts read things shrinks)))
    where
      same : (o : Option (List ℕ)) (m : Result (List A × List ℕ) Fault) → unless_closed o m ≡
          closed {A = List A} close [] some_more o m
      same (Some r) m = refl
      same None m = refl

pub steady_items : {A : Type 0} (read : List ℕ → Result (A × List ℕ) Fault) → Steady pairs read → Shrinks read →
    (open_ close : ℕ) → Steady pairs (items_at open_ close read)
unfolding items_at
steady_items read things shrinks open_ close =
    steady_enclosed (separator_at close) (steady_separator close) read things shrinks open_ close

-- an unexpected word
pub wrong_word : {V : Type 0} (w : List ℕ) (f : Fault) → fault {A = V} Unexpected ≡ Err f → IsWrong f (word w ∷ [])
wrong_word w f e = let same : Unexpected ≡ f = cc in subst (λ g. IsWrong g (word w ∷ [])) same (word w, refl)

-- ---- types

-- a choice that did not fail so far
pub else_err : {V : Type 0} (b : Bool) (x : V) (rest : Result V Fault) (f : Fault) → cond b (Ok x) rest ≡ Err f →
    rest ≡ Err f
else_err true x rest f e = absurd (let v = e in cc)
else_err false x rest f e = e

kind_wrong : (w : List ℕ) (f : Fault) → type_kind w ≡ Err f → IsWrong f (word w ∷ [])
unfolding type_kind
kind_wrong w f e = wrong_word w f (else_err (bytes_eq w (codes "builtin.unit")) type_kinds.Unit _ f (else_err
    (bytes_eq w (codes "builtin.function")) type_kinds.Function _ f (else_err (bytes_eq w (codes "builtin.integer"))
    type_kinds.Integer _ f e)))

width_wrong : (s : Signedness) (w ds : List ℕ) (f : Fault) → w ≡ letters s ++ ds → width_of s ds ≡ Err f →
    IsWrong f (word w ∷ [])
unfolding width_of
width_wrong s w ds f is e =
    elim (chosen (begins is_digit ds) _ _ _ e) [
      | inr h ↦ wrong_word w f h.1
      | inl h ↦ elim (chosen (nat_lt (value_after 0 (front is_digit ds)) (2 ^ 32)) _ _ _ h.1) [
        | inl k ↦ elim (chosen (all_pass is_digit ds) _ _ _ k.1) [
          | inl l ↦ absurd (let v = l.1 in cc)
          | inr l ↦ wrong_word w f l.1
        ]
        | inr k ↦
            let same : IntegerOutOfRange ≡ f = let v = k.1 in cc in
            let much = ltb-false (value_after 0 (front is_digit ds)) (2 ^ 32) k.0 in
            subst (λ (g : Fault). IsWrong g (word w ∷ [])) same
            (inl (s, ds, much, ap (λ (v : List ℕ). word v ∷ []) is))
      ]
    ]

integer_wrong : (w : List ℕ) (f : Fault) → integer_of w ≡ Err f → IsWrong f (word w ∷ [])
unfolding integer_of
integer_wrong [] f e = wrong_word [] f e
integer_wrong (a ∷ []) f e = wrong_word (a ∷ []) f e
integer_wrong (a ∷ b ∷ ds) f e =
    elim (chosen (nat_eq a 105) _ _ _ e) [
      | inl h ↦ width_wrong Signless (a ∷ b ∷ ds) (b ∷ ds) f
          (ap (λ (y : ℕ). y ∷ b ∷ ds) ((Decides-eqb a 105).0 h.0)) h.1
      | inr e1 ↦ elim (chosen (nat_eq b 105) _ _ _ e1.1) [
        | inr h ↦ wrong_word (a ∷ b ∷ ds) f h.1
        | inl g ↦ elim (chosen (nat_eq a 115) _ _ _ g.1) [
          | inl h ↦ width_wrong Signed (a ∷ b ∷ ds) ds f (ap (λ (y : ℕ). y ∷ b ∷ ds) ((Decides-eqb a 115).0 h.0) ∙
              ap (λ (y : ℕ). 115 ∷ y ∷ ds) ((Decides-eqb b 105).0 g.0)) h.1
          | inr e2 ↦ elim (chosen (nat_eq a 117) _ _ _ e2.1) [
            | inl h ↦ width_wrong Unsigned (a ∷ b ∷ ds) ds f (ap (λ (y : ℕ). y ∷ b ∷ ds) ((Decides-eqb a 117).0 h.0) ∙
                ap (λ (y : ℕ). 117 ∷ y ∷ ds) ((Decides-eqb b 105).0 g.0)) h.1
            | inr h ↦ wrong_word (a ∷ b ∷ ds) f h.1
          ]
        ]
      ]
    ]

pub steady_integer : Steady pairs integer_at
unfolding integer_at
steady_integer = steady_made integer_of integer_wrong

steady_head : Steady pairs type_head
unfolding type_head
steady_head = steady_made type_kind kind_wrong

module _ (read : List ℕ → Result (TypeTerm × List ℕ) Fault) (types : Steady pairs read) (shrinks : Shrinks read) where
  steady_function : Steady pairs (function_at read)
  unfolding function_at
  steady_function =
      let items = steady_items read types shrinks 40 41 in
      steady_bind bare (sign_at 60) (steady_sign 60) pairs _ (λ s. steady_bind pairs (items_at 40 41 read) items pairs _
      (λ as_. steady_bind bare arrow_at steady_arrow pairs _ (λ b. steady_bind pairs (items_at 40 41 read) items pairs _
      (λ rs. steady_bind bare (sign_at 62) (steady_sign 62) pairs _ (λ e. steady_done _)))))

  steady_type_body : (k : TypeKind) → Steady pairs (type_body read k)
  steady_type_body type_kinds.Integer = steady_bind pairs integer_at steady_integer pairs _ (λ x. steady_done _)
  steady_type_body type_kinds.Function =
      steady_bind pairs (function_at read) steady_function pairs _ (λ x. steady_done _)
  steady_type_body type_kinds.Unit = steady_done _

pub steady_type : (n : ℕ) → Steady pairs (type_at n)
unfolding type_at
steady_type zero = steady_deep
steady_type (suc n) = steady_bind pairs type_head steady_head pairs (λ h. type_body (type_at n) h.0 h.1)
    (λ h. steady_type_body (type_at n) (steady_type n) (type_at-shorter n) h.0)
