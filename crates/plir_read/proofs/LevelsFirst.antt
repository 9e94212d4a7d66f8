-- With fewer levels reading answers what it does with more, or meets a level that is one too many.
use Rattle.std.proofs.Common.{◌≡◌, ◌⊎◌, ℕ, zero, suc, ◌<◌, ◌≤◌, Bool, true, false, List, length, Option, Some, None}
use Rattle.std.proofs.Common.{Result, Ok, Err, refl, sym, subst, ◌∙◌, arith, inl, inr, cond, is_some}
use Rattle.std.proofs.lemmas.Bool.{le-leb}
use Rattle.plir_attr_text.specs.declared.attr_words.AttrKind.{AttrKind}
use Rattle.plir_attr_text.specs.declared.attr_words.AttrKind.TheVariants as kinds
use Rattle.plir_attr_text.specs.declared.fault.Fault.{Fault}
use Rattle.plir_attr_text.specs.declared.fault.Fault.TheVariants.{TooDeep}
use Rattle.plir_attr_text.specs.declared.words.TypeKind.{TypeKind}
use Rattle.plir_attr_text.specs.declared.words.TypeKind.TheVariants as type_kinds
use Rattle.plir_attr_text.specs.AttrReading.{attr_head, value_at, entry_at, attr_body, attr_at, literal_at, name_at}
use Rattle.plir_attr_text.specs.Levels.{if_level, level_at}
use Rattle.plir_attr_text.specs.Lists.{sign_at, past_sign, if_more, more_at, unless_closed, items_at}
use Rattle.plir_attr_text.specs.Steps.{◌>>=◌}
use Rattle.plir_attr_text.specs.Terms.{TypeTerm, AttrTerm}
use Rattle.plir_attr_text.specs.TypeGrammar.{IsText}
use Rattle.plir_attr_text.specs.TypeReading.{word_at, function_at, type_head, type_body, type_at}
use Rattle.plir_attr_text.specs.Wholes.{whole}
use Rattle.plir_attr_text.specs.laws.ListsAgain.{whole_again}
use Rattle.plir_read.specs.FaultsMet.{Meets}
use Rattle.plir_read.specs.OpGrammar.{OpWithin}
use Rattle.plir_read.specs.OpReading.{names_before, op_id, start_at, symbol_at, argument_at, block_head_at, head_at}
use Rattle.plir_read.specs.OpReading.{dictionary_at, header_at, constant_at, named_constant_at, named, ends_block}
use Rattle.plir_read.specs.OpReading.{semicolon_at, brace_at, ops_at, block_at, blocks_at, bodied_at, behind_id, op_at}
use Rattle.plir_read.specs.OpReading as op_reading
use Rattle.plir_read.specs.OpTerms.{OpTerm, op_levels}
use Rattle.plir_read.specs.declared.heads.BodyKind.{BodyKind}
use Rattle.plir_read.specs.declared.heads.BodyKind.TheVariants.{Module, Func}
use Rattle.plir_read.specs.declared.heads.HeadKind.{HeadKind}
use Rattle.plir_read.specs.declared.heads.HeadKind.TheVariants.{Bodied, Constant, ForwardRef}
use Rattle.plir_read.proofs.OpAgain.{op_within_again}
use Rattle.plir_read.proofs.OpWhole.{op_text_found}

-- ---- steps

-- the first is the second, or a level that is one too many
abbrev Sooner : {A : Type 0} → Result A Fault → Result A Fault → Type 0
Sooner {A} a b = (a ≡ b) ⊎ (a ≡ Err TooDeep)

abbrev Earlier : {A : Type 0} → (List ℕ → Result A Fault) → (List ℕ → Result A Fault) → Type 0
Earlier {A} r s = (bytes : List ℕ) → Sooner (r bytes) (s bytes)

module _ {A B : Type 0} where
  behind_same : (r : Result A Fault) (f g : A → Result B Fault) → ((x : A) → Sooner (f x) (g x)) →
      Sooner (r >>= f) (r >>= g)
  behind_same (Ok x) f g s = s x
  behind_same (Err e) f g s = inl refl

  behind_sooner : (a b : Result A Fault) (f g : A → Result B Fault) → Sooner a b → ((x : A) → Sooner (f x) (g x)) →
      Sooner (a >>= f) (b >>= g)
  behind_sooner a b f g h s =
      elim h [
        | inl e ↦ subst (λ (c : Result A Fault). Sooner (c >>= f) (b >>= g)) (sym e) (behind_same b f g s)
        | inr e ↦ inr (subst (λ (c : Result A Fault). (c >>= f) ≡ Err TooDeep) (sym e) refl)
      ]

  -- one step that is sooner
  first_sooner : (a b : Result A Fault) (f : A → Result B Fault) → Sooner a b → Sooner (a >>= f) (b >>= f)
  first_sooner a b f h = behind_sooner a b f f h (λ x. inl refl)

-- a choice
module _ {A : Type 0} where
  chosen_sooner : (t : Bool) (a b c : Result A Fault) → Sooner a b → Sooner (cond t a c) (cond t b c)
  chosen_sooner true a b c h = h
  chosen_sooner false a b c h = inl refl

  other_sooner : (t : Bool) (a b c : Result A Fault) → Sooner a b → Sooner (cond t c a) (cond t c b)
  other_sooner true a b c h = inl refl
  other_sooner false a b c h = h

-- a word, where no level is left
no_level : {A B C : Type 0} (r : Result A Fault) (f : A → Result B Fault) (g : B → Result C Fault) →
    Sooner (r >>= λ w. Err TooDeep) ((r >>= f) >>= g)
no_level (Ok x) f g = inr refl
no_level (Err e) f g = inl refl

-- ---- lists

module _ {A : Type 0} (r s : List ℕ → Result (A × List ℕ) Fault) (sooner : Earlier r s) where
  more_sooner : (goes : List ℕ → Result (Bool × List ℕ) Fault) (m : ℕ) → Earlier (more_at goes r m) (more_at goes s m)
  unfolding more_at
  more_sooner goes zero bytes = inl refl
  more_sooner goes (suc m) bytes =
      behind_sooner (r bytes) (s bytes) _ _ (sooner bytes)
      (λ x. behind_same (goes x.1) _ _ (λ q. first_sooner _ _ _ (at q.0 q.1 (more_sooner goes m q.1))))
    where
      at : (more : Bool) (rest : List ℕ) → Sooner (more_at goes r m rest) (more_at goes s m rest) →
          Sooner (if_more more (more_at goes r m rest) rest) (if_more more (more_at goes s m rest) rest)
      at true rest h = h
      at false rest h = inl refl

  unless_sooner : (o : Option (List ℕ)) (a b : Result (List A × List ℕ) Fault) → Sooner a b →
      Sooner (unless_closed o a) (unless_closed o b)
  unless_sooner (Some rest) a b h = inl refl
  unless_sooner None a b h = h

  items_sooner : (open_ close : ℕ) → Earlier (items_at open_ close r) (items_at open_ close s)
  unfolding items_at
  items_sooner open_ close bytes =
      behind_same (sign_at open_ bytes) _ _
      (λ start. unless_sooner (past_sign close start) _ _ (more_sooner _ (suc (length start)) start))

-- ---- types

module _ (r s : List ℕ → Result (TypeTerm × List ℕ) Fault) (sooner : Earlier r s) where
  function_sooner : Earlier (function_at r) (function_at s)
  unfolding function_at
  function_sooner bytes =
      behind_same (sign_at 60 bytes) _ _
      (λ start. behind_sooner (items_at 40 41 r start) (items_at 40 41 s start) _ _ (items_sooner r s sooner 40 41
      start)
      (λ as_. behind_same _ _ _ (λ behind. first_sooner _ _ _ (items_sooner r s sooner 40 41 behind))))

  type_body_sooner : (k : TypeKind) → Earlier (type_body r k) (type_body s k)
  type_body_sooner type_kinds.Integer bytes = inl refl
  type_body_sooner type_kinds.Function bytes = first_sooner _ _ _ (function_sooner bytes)
  type_body_sooner type_kinds.Unit bytes = inl refl

type_sooner : (m n : ℕ) → m ≤ n → Earlier (type_at m) (type_at n)
unfolding type_at type_head
type_sooner zero zero le bytes = inl refl
type_sooner zero (suc n) le bytes = no_level (word_at bytes) _ _
type_sooner (suc m) zero le bytes = absurd (omega arith)
type_sooner (suc m) (suc n) le bytes =
    behind_same (type_head bytes) _ _
    (λ h. type_body_sooner (type_at m) (type_at n) (type_sooner m n (omega (arith, le))) h.0 h.1)

-- ---- attributes

one_level : (m n : ℕ) → m ≤ n → Sooner (if_level m) (if_level n)
unfolding if_level
one_level zero n le = inr refl
one_level (suc m) zero le = absurd (omega arith)
one_level (suc m) (suc n) le = rw (le-leb 1 (suc m) (omega arith), le-leb 1 (suc n) (omega arith)) (inl refl)

level_sooner : (m n : ℕ) → m ≤ n → Earlier (level_at m) (level_at n)
unfolding level_at
level_sooner m n le bytes = behind_same (word_at bytes) _ _ (λ w. one_level m n le)

value_sooner : (m n : ℕ) → m ≤ n → Earlier (value_at m) (value_at n)
unfolding value_at
value_sooner m n le bytes =
    behind_same (sign_at 60 bytes) _ _ (λ start. behind_same (literal_at start) _ _
    (λ v. behind_same (sign_at 58 v.1) _ _ (λ colon. first_sooner _ _ _ (level_sooner m n le colon))))

module _ (r s : List ℕ → Result (AttrTerm × List ℕ) Fault) (sooner : Earlier r s) where
  entry_sooner : Earlier (entry_at r) (entry_at s)
  unfolding entry_at
  entry_sooner bytes =
      behind_same (name_at bytes) _ _
      (λ k. behind_same (sign_at 61 k.1) _ _ (λ behind. first_sooner _ _ _ (sooner behind)))

  attr_body_sooner : (m n : ℕ) → m ≤ n → (k : AttrKind) → Earlier (attr_body m r k) (attr_body n s k)
  attr_body_sooner m n le kinds.Identifier bytes = inl refl
  attr_body_sooner m n le kinds.String bytes = inl refl
  attr_body_sooner m n le kinds.Bool bytes = inl refl
  attr_body_sooner m n le kinds.Integer bytes = first_sooner _ _ _ (value_sooner m n le bytes)
  attr_body_sooner m n le kinds.Dict bytes =
      first_sooner _ _ _ (items_sooner (entry_at r) (entry_at s) entry_sooner 91 93 bytes)
  attr_body_sooner m n le kinds.Vec bytes = first_sooner _ _ _ (items_sooner r s sooner 91 93 bytes)
  attr_body_sooner m n le kinds.Unit bytes = inl refl
  attr_body_sooner m n le kinds.TypeOf bytes = first_sooner _ _ _ (type_sooner m n le bytes)
  attr_body_sooner m n le kinds.OperandSegmentSizes bytes = inl refl
  attr_body_sooner m n le kinds.GivenNames bytes = inl refl

attr_sooner : (m n : ℕ) → m ≤ n → Earlier (attr_at m) (attr_at n)
unfolding attr_at attr_head
attr_sooner zero zero le bytes = inl refl
attr_sooner zero (suc n) le bytes = no_level (word_at bytes) _ _
attr_sooner (suc m) zero le bytes = absurd (omega arith)
attr_sooner (suc m) (suc n) le bytes =
    behind_same (attr_head bytes) _ _
    (λ h. attr_body_sooner (attr_at m) (attr_at n) (attr_sooner m n (omega (arith, le))) m n (omega (arith, le)) h.0
    h.1)

-- ---- operations

module _ (m n : ℕ) (le : m ≤ n) where
  argument_sooner : Earlier (argument_at m) (argument_at n)
  unfolding argument_at
  argument_sooner bytes =
      behind_same (name_at bytes) _ _
      (λ w. behind_same (sign_at 58 w.1) _ _ (λ colon. first_sooner _ _ _ (type_sooner m n le colon)))

  block_head_sooner : Earlier (block_head_at m) (block_head_at n)
  unfolding block_head_at
  block_head_sooner bytes =
      behind_same (sign_at 94 bytes) _ _ (λ start. behind_same (name_at start) _ _
      (λ w. first_sooner _ _ _ (items_sooner (argument_at m) (argument_at n) argument_sooner 40 41 w.1)))

  head_sooner : (k : BodyKind) → Earlier (head_at m k) (head_at n k)
  unfolding head_at
  head_sooner Module bytes = inl refl
  head_sooner Func bytes =
      behind_same (symbol_at bytes) _ _
      (λ w. behind_same (sign_at 58 w.1) _ _ (λ colon. first_sooner _ _ _ (type_sooner m n le colon)))

  dictionary_sooner : Earlier (dictionary_at m) (dictionary_at n)
  unfolding dictionary_at
  dictionary_sooner bytes =
      chosen_sooner (is_some (past_sign 91 bytes)) _ _ _ (first_sooner _ _ _ (items_sooner (entry_at (attr_at m))
      (entry_at (attr_at n)) (entry_sooner (attr_at m) (attr_at n) (attr_sooner m n le)) 91 93 bytes))

  header_sooner : (k : BodyKind) → Earlier (header_at m k) (header_at n k)
  unfolding header_at
  header_sooner k bytes =
      behind_sooner (head_at m k bytes) (head_at n k bytes) _ _ (head_sooner k bytes)
      (λ h. first_sooner _ _ _ (dictionary_sooner h.1))

  held_sooner : Earlier (op_reading.value_at m) (op_reading.value_at n)
  unfolding op_reading.value_at
  held_sooner bytes = behind_same (sign_at 60 bytes) _ _ (λ start. first_sooner _ _ _ (attr_sooner m n le start))

  constant_sooner : Earlier (constant_at m) (constant_at n)
  unfolding constant_at
  constant_sooner bytes =
      behind_sooner (op_reading.value_at m bytes) (op_reading.value_at n bytes) _ _ (held_sooner bytes)
      (λ a. behind_same (sign_at 58 a.1) _ _ (λ colon. first_sooner _ _ _ (type_sooner m n le colon)))

  module _ (r s : List ℕ → Result (OpTerm × List ℕ) Fault) (sooner : Earlier r s) where
    ops_sooner : Earlier (ops_at r) (ops_at s)
    unfolding ops_at
    ops_sooner bytes =
        other_sooner (ends_block bytes) _ _ _ (more_sooner r s sooner semicolon_at (suc (length bytes)) bytes)

    block_sooner : Earlier (block_at r m) (block_at s n)
    unfolding block_at
    block_sooner bytes =
        behind_sooner (block_head_at m bytes) (block_head_at n bytes) _ _ (block_head_sooner bytes)
        (λ w. first_sooner _ _ _ (ops_sooner w.1))

    blocks_sooner : Earlier (blocks_at r m) (blocks_at s n)
    unfolding blocks_at
    blocks_sooner bytes =
        behind_same (sign_at 123 bytes) _ _
        (λ start. unless_sooner (block_at r m) (block_at s n) block_sooner (past_sign 125 start) _ _
        (more_sooner (block_at r m) (block_at s n) block_sooner brace_at (suc (length start)) start))

    bodied_sooner : (k : BodyKind) (names : ℕ) → Earlier (bodied_at r m k names) (bodied_at s n k names)
    unfolding bodied_at
    bodied_sooner k names bytes =
        behind_same (named 0 names) _ _ (λ u. behind_sooner (header_at m k bytes) (header_at n k bytes) _ _
        (header_sooner k bytes) (λ h. first_sooner _ _ _ (blocks_sooner h.1)))

    behind_id_sooner : (ws : List (List ℕ)) (k : HeadKind) → Earlier (behind_id r m ws k) (behind_id s n ws k)
    unfolding named_constant_at
    behind_id_sooner ws (Bodied k) bytes = bodied_sooner k (length ws) bytes
    behind_id_sooner ws Constant bytes =
        first_sooner _ _ _ (behind_same (named 1 (length ws)) _ _ (λ u. constant_sooner bytes))
    behind_id_sooner ws ForwardRef bytes = inl refl

-- where no word comes no operation begins
no_start : (bytes : List ℕ) (f : Fault) → word_at bytes ≡ Err f → start_at bytes ≡ Err f
unfolding start_at names_before name_at op_id
no_start bytes f e = rw (e, e) refl

no_word : (m : ℕ) (bytes : List ℕ) (r : Result (List ℕ × List ℕ) Fault) → word_at bytes ≡ r →
    Sooner (r >>= λ w. Err TooDeep) (op_at (suc m) bytes)
unfolding op_at
no_word m bytes (Ok w) e = inr refl
no_word m bytes (Err f) e = inl (rw (no_start bytes f e) refl)

op_sooner : (m n : ℕ) → m ≤ n → Earlier (op_at m) (op_at n)
unfolding op_at
op_sooner zero zero le bytes = inl refl
op_sooner zero (suc n) le bytes = no_word n bytes (word_at bytes) refl
op_sooner (suc m) zero le bytes = absurd (omega arith)
op_sooner (suc m) (suc n) le bytes =
    let less : m ≤ n = omega (arith, le) in
    behind_same (start_at bytes) _ _
    (λ s. behind_id_sooner m n less (op_at m) (op_at n) (op_sooner m n less) s.0.0 s.0.1 s.1)

whole_sooner : (m n : ℕ) → m ≤ n → Earlier (whole (op_at m)) (whole (op_at n))
unfolding whole
whole_sooner m n le bytes = first_sooner _ _ _ (op_sooner m n le bytes)

-- ---- faults

pub fewer_levels : (m n : ℕ) (text : List ℕ) (f : Fault) → m ≤ n → Meets n text f → Meets m text f ⊎
    Meets m text TooDeep
fewer_levels m n text f le h =
    elim (whole_sooner m n le text) [
      | inl e ↦ inl (e ∙ h)
      | inr e ↦ inr e
    ]

pub too_few_levels : (m n : ℕ) (text : List ℕ) (w : OpTerm) → IsText (OpWithin n) text w → m < op_levels w →
    Meets m text TooDeep
too_few_levels m n text w s lt =
    let read = whole_again (op_at n) (OpWithin n) (op_within_again n) text w s in
    elim (whole_sooner m n (omega (arith, lt, s.spelled.1)) text) [
      | inl e ↦
          let found = op_text_found m text w (e ∙ read) in
          absurd (omega (arith, lt, found.spelled.1))
      | inr e ↦ e
    ]
