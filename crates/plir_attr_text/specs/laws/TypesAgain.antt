-- Types that stand there are read.
use Rattle.std.proofs.Common.{◌≡◌, ℕ, zero, suc, ◌<◌, ◌≤◌, ◌^◌, ◌&&◌, nat_lt, Bool, true, false, List, [], ◌∷◌, ◌++◌}
use Rattle.std.proofs.Common.{codes, None, Result, Ok, refl, ap, subst, ◌∙◌, arith}
use Rattle.std.proofs.lemmas.Bool.Decides.{Decides-ltb}
use Rattle.plir_data.specs.declared.types.Signedness.TheVariants.{Signed, Unsigned, Signless}
use Rattle.plir_data.specs.{Identifier.is_digit, declared.types.Signedness.Signedness, TypeText.letters}
use Rattle.plir_attr_text.specs.Terms.{TypeTerm, integer_type, function_type, unit_type, TypeTerms, no_types}
use Rattle.plir_attr_text.specs.Terms.{type_before, types_of, type_levels, types_levels}
use Rattle.plir_attr_text.specs.TypeGrammar.{enclosed, in_angles, SpellsInteger, SpellsType, SpellsTypes}
use Rattle.plir_attr_text.specs.TypeGrammar.{SpellsMoreTypes, TypeWithin, IsInteger, FunctionWithin}
use Rattle.plir_attr_text.specs.TypeReading.{type_kind, width_of, integer_of, integer_at, function_at, type_head}
use Rattle.plir_attr_text.specs.TypeReading.{type_at}
use Rattle.plir_attr_text.specs.laws.Begun.{Begins-split, word_again, arrow_again, sign_again}
use Rattle.plir_attr_text.specs.laws.ListsAgain.{IsRead, several_read, word_opens}
use Rattle.plir_attr_text.specs.{declared.fault.Fault.Fault, Bytes.begins, Bytes.all_pass, Bytes.is_digits}
use Rattle.plir_attr_text.specs.{Bytes.value_after, Tokens.Token, Tokens.word, Tokens.arrow, Tokens.sign, Tokens.look}
use Rattle.plir_attr_text.specs.{Tokens.Begins, Lists.past_sign, laws.StepLaws.done, laws.ListsFound.More}
use Rattle.plir_attr_text.specs.{laws.ListsFound.Several, laws.TypesFound.front_all, laws.TypesFound.FunctionOf}

pub parts : (a b : Bool) → (a && b) ≡ true → (a ≡ true) × (b ≡ true)
parts true b e = (refl, e)
parts false b e = absurd cc

width_again : (s : Signedness) (ds : List ℕ) (w : ℕ) → is_digits ds ≡ true → value_after 0 ds ≡ w → w < 2 ^ 32 →
    width_of s ds ≡ Ok (s, w)
unfolding width_of
width_again s ds w d v few =
    let p = parts (begins is_digit ds) (all_pass is_digit ds) d in
    let same = front_all is_digit ds p.1 in
    let small : nat_lt (value_after 0 ds) (2 ^ 32) ≡ true =
    (Decides-ltb (value_after 0 ds) (2 ^ 32)).1 (omega (arith, v, few)) in
    rw (p.0, same, small, p.1, v) refl

integer_of_again : (s : Signedness) (ds : List ℕ) (w : ℕ) → is_digits ds ≡ true → value_after 0 ds ≡ w → w < 2 ^ 32 →
    integer_of (letters s ++ ds) ≡ Ok (s, w)
unfolding integer_of
integer_of_again Signed ds w d v few = width_again Signed ds w d v few
integer_of_again Unsigned ds w d v few = width_again Unsigned ds w d v few
integer_of_again Signless [] w d v few = absurd cc
integer_of_again Signless (b ∷ ds) w d v few = width_again Signless (b ∷ ds) w d v few

pub integer_again : (x : Signedness × ℕ) (ts : List Token) (bytes rest : List ℕ) → IsInteger x ts →
    Begins bytes ts rest → integer_at bytes ≡ Ok (x, rest)
unfolding integer_at
integer_again x ts bytes rest h b =
    let c = subst (λ (y : List Token). Begins bytes y rest) h.tokens b in
    rw (word_again bytes (letters x.0 ++ h.written) c.0 c.1, integer_of_again x.0 h.written x.1 h.digits h.value h.few)
    (ap (λ (y : List ℕ). done (x, y)) c.2)

-- the types, as a list
abbrev pub type_list : TypeTerms → List TypeTerm
type_list no_types = []
type_list (type_before t ts) = t ∷ type_list ts

types_of-type_list : (ts : TypeTerms) → types_of (type_list ts) ≡ ts
types_of-type_list no_types = refl
types_of-type_list (type_before t ts) = ap (type_before t) (types_of-type_list ts)

-- the parts of a function type, each of which is read
pub function_again : (read : List ℕ → Result (TypeTerm × List ℕ) Fault) (as_ rs : TypeTerms) (first second : List Token)
    (bytes rest : List ℕ) → Several (IsRead 41 read) (type_list as_) first →
    Several (IsRead 41 read) (type_list rs) second → Begins bytes (in_angles first second) rest →
    function_at read bytes ≡ Ok ((as_, rs), rest)
unfolding function_at
function_again read as_ rs first second bytes rest p q b =
    let d = Begins-split (enclosed 40 first 41) (arrow ∷ (enclosed 40 second 41 ++ (sign 62 ∷ []))) b.0 rest b.2 in
    let e = d.2 in
    let f = Begins-split (enclosed 40 second 41) (sign 62 ∷ []) e.0 rest e.2 in
    let g = f.2 in
    rw (
      sign_again 60 bytes b.0 b.1,
      several_read 41 refl read 40 (type_list as_) first b.0 d.0 p d.1,
      arrow_again d.0 e.0 e.1,
      several_read 41 refl read 40 (type_list rs) second e.0 f.0 q f.1,
      sign_again 62 f.0 g.0 g.1,
      types_of-type_list as_,
      types_of-type_list rs,
    ) (ap (λ (y : List ℕ). done ((as_, rs), y)) g.2)

integer_type_again : (n : ℕ) (s : Signedness) (w : ℕ) (behind : List Token) (bytes mid rest : List ℕ) → 0 < n →
    SpellsInteger s w behind → look bytes ≡ Ok (word (codes "builtin.integer"), mid) → Begins mid behind rest →
    type_at n bytes ≡ Ok (integer_type s w, rest)
unfolding type_at type_head type_kind
integer_type_again zero s w behind bytes mid rest lt h e b = absurd (omega arith)
integer_type_again (suc n) s w behind bytes mid rest lt h e b = rw (
  word_again bytes (codes "builtin.integer") mid e,
  integer_again (s, w) behind mid rest h b,
) refl

unit_type_again : (n : ℕ) (bytes rest : List ℕ) → 0 < n → look bytes ≡ Ok (word (codes "builtin.unit"), rest) →
    type_at n bytes ≡ Ok (unit_type, rest)
unfolding type_at type_head type_kind
unit_type_again zero bytes rest lt e = absurd (omega arith)
unit_type_again (suc n) bytes rest lt e = rw (word_again bytes (codes "builtin.unit") rest e) refl

function_type_again : (n : ℕ) (as_ rs : TypeTerms) (bytes mid rest : List ℕ) →
    look bytes ≡ Ok (word (codes "builtin.function"), mid) → function_at (type_at n) mid ≡ Ok ((as_, rs), rest) →
    type_at (suc n) bytes ≡ Ok (function_type as_ rs, rest)
unfolding type_at type_head type_kind
function_type_again n as_ rs bytes mid rest e f = rw (word_again bytes (codes "builtin.function") mid e, f) refl

-- a type begins with a word
pub type_opens : (t : TypeTerm) (ts : List Token) (close : ℕ) (bytes rest : List ℕ) → SpellsType t ts →
    Begins bytes ts rest → past_sign close bytes ≡ None
type_opens (integer_type s w) ts close bytes rest h b = word_opens close (codes "builtin.integer") h.0 bytes rest
    (subst (λ (y : List Token). Begins bytes y rest) h.2 b)
type_opens (function_type as_ rs) ts close bytes rest h b =
    word_opens close (codes "builtin.function") (in_angles h.0 h.1) bytes rest
    (subst (λ (y : List Token). Begins bytes y rest) h.4 b)
type_opens unit_type ts close bytes rest h b =
    word_opens close (codes "builtin.unit") [] bytes rest (subst (λ (y : List Token). Begins bytes y rest) h b)

type_reads : (t : TypeTerm) (ts : List Token) (n : ℕ) → SpellsType t ts →
    ((bytes rest : List ℕ) → Begins bytes ts rest → type_at n bytes ≡ Ok (t, rest)) → IsRead 41 (type_at n) t ts
type_reads t ts n h reads = record { reads = reads; opens = λ bytes rest b. type_opens t ts 41 bytes rest h b }

mutual
  pub type_again : (t : TypeTerm) (ts : List Token) (n : ℕ) (bytes rest : List ℕ) → SpellsType t ts →
      type_levels t ≤ n → Begins bytes ts rest → type_at n bytes ≡ Ok (t, rest)
  type_again (integer_type s w) ts n bytes rest h le b =
      let c = subst (λ (y : List Token). Begins bytes y rest) h.2 b in
      integer_type_again n s w h.0 bytes c.0 rest (omega arith) h.1 c.1 c.2
  type_again (function_type as_ rs) ts zero bytes rest h le b = absurd (omega arith)
  type_again (function_type as_ rs) ts (suc n) bytes rest h le b =
      let c = subst (λ (y : List Token). Begins bytes y rest) h.4 b in
      function_type_again n as_ rs bytes c.0 rest c.1 (function_again (type_at n) as_ rs h.0 h.1 c.0 rest
      (types_again as_ h.0 n h.2 (omega arith)) (types_again rs h.1 n h.3 (omega arith)) c.2)
  type_again unit_type ts n bytes rest h le b =
      let c = subst (λ (y : List Token). Begins bytes y rest) h b in
      unit_type_again n bytes rest (omega arith) (c.1 ∙ ap (λ (y : List ℕ). done (word (codes "builtin.unit"), y)) c.2)

  pub types_again : (xs : TypeTerms) (ts : List Token) (n : ℕ) → SpellsTypes xs ts → types_levels xs ≤ n →
      Several (IsRead 41 (type_at n)) (type_list xs) ts
  types_again no_types ts n h le = h
  types_again (type_before t xs) ts n h le = (
    h.0,
    h.1,
    type_reads t h.0 n h.2 (λ bytes rest b. type_again t h.0 n bytes rest h.2 (omega arith) b),
    more_again xs h.1 n h.3 (omega arith),
    h.4,
  )

  more_again : (xs : TypeTerms) (ts : List Token) (n : ℕ) → SpellsMoreTypes xs ts → types_levels xs ≤ n →
      More (IsRead 41 (type_at n)) (type_list xs) ts
  more_again no_types ts n h le = h
  more_again (type_before t xs) ts n h le = (
    h.0,
    h.1,
    type_reads t h.0 n h.2 (λ bytes rest b. type_again t h.0 n bytes rest h.2 (omega arith) b),
    more_again xs h.1 n h.3 (omega arith),
    h.4,
  )

-- the readers of whole texts: a type, and an integer or function type behind its id

pub type_within_again : (n : ℕ) (t : TypeTerm) (ts : List Token) (bytes rest : List ℕ) → TypeWithin n t ts →
    Begins bytes ts rest → type_at n bytes ≡ Ok (t, rest)
type_within_again n t ts bytes rest h b = type_again t ts n bytes rest h.0 h.1 b

pub function_of_again : (n : ℕ) (x : TypeTerms × TypeTerms) (ts : List Token) (bytes rest : List ℕ) →
    FunctionOf n x ts → Begins bytes ts rest → function_at (type_at n) bytes ≡ Ok (x, rest)
function_of_again n x ts bytes rest h b =
    let s = h.0 in
    function_again (type_at n) x.0 x.1 s.0 s.1 bytes rest (types_again x.0 s.0 n s.2 h.1)
    (types_again x.1 s.1 n s.3 h.2) (subst (λ (y : List Token). Begins bytes y rest) s.4 b)

pub function_within_again : (n : ℕ) (x : TypeTerms × TypeTerms) (ts : List Token) (bytes rest : List ℕ) →
    FunctionWithin (suc n) x ts → Begins bytes ts rest → function_at (type_at n) bytes ≡ Ok (x, rest)
function_within_again n x ts bytes rest h b = function_of_again n x ts bytes rest (
  h.0,
  omega (arith, h.1),
  omega (arith, h.1),
) b
