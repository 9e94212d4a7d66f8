-- The tokens of what is printed.
use Rattle.std.proofs.Common.{◌≡◌, ◌&&◌, ◌||◌, if◌then◌else◌, nat_eq, ℕ, suc, ◌+◌, ◌-◌, ◌*◌, ◌%◌, ◌^◌, ◌<◌, ◌≤◌, Bool}
use Rattle.std.proofs.Common.{true, false, cond, List, [], ◌∷◌, ◌++◌, codes, Ok, refl, sym, ap, subst, ◌∙◌, arith}
use Rattle.std.proofs.Common.{append_assoc}
use Rattle.std.proofs.{lemmas.Fmt.decimal_by_steps, lemmas.Nat.pow_pos, Math.Nat.pow-le-pow_right, Math.Nat.pow-succ'}
use Rattle.std.proofs.{Math.Nat.mod-eq_of_lt, lemmas.Bool.le-leb, lemmas.Bool.leb-true, lemmas.Bool.Decides.nat_tests}
use Rattle.std.specs.Fmt.{decimal}
use Rattle.plir_data.specs.declared.types.Signedness.TheVariants.{Signed, Unsigned, Signless}
use Rattle.plir_data.specs.{Identifier.is_letter, Identifier.is_digit, Integers.is_high, Integers.literal}
use Rattle.plir_data.specs.{TypeText.letters, TypeText.integer_text, declared.types.Signedness.Signedness}
use Rattle.plir_attr_text.specs.Bytes.{is_blank, is_in_name, is_in_word, is_point, front, past, word_front, word_past}
use Rattle.plir_attr_text.specs.Bytes.{all_pass, begins, is_digits, value_after}
use Rattle.plir_attr_text.specs.Tokens.{Token, word, digits, signed, sign, number_of, token_at, look, Begins}
use Rattle.plir_attr_text.specs.{AttrGrammar.SpellsValue, TypeGrammar.SpellsInteger, laws.StepLaws.done}
use Rattle.plir_attr_text.specs.laws.{Lexing.look-sign, TypesAgain.parts}

-- what ends a run
abbrev pub Ends : (ℕ → Bool) → List ℕ → Type 0
Ends p [] = Unit {0}
Ends p (b ∷ bs) = p b ≡ false

pub front-run : (p : ℕ → Bool) (w rest : List ℕ) → all_pass p w ≡ true → Ends p rest → front p (w ++ rest) ≡ w
front-run p [] [] r e = refl
front-run p [] (b ∷ bs) r e = rw e refl
front-run p (b ∷ w) rest r e = let h = parts (p b) (all_pass p w) r in
    rw h.0 (ap (λ (x : List ℕ). b ∷ x) (front-run p w rest h.1 e))

pub past-run : (p : ℕ → Bool) (w rest : List ℕ) → all_pass p w ≡ true → Ends p rest → past p (w ++ rest) ≡ rest
past-run p [] [] r e = refl
past-run p [] (b ∷ bs) r e = rw e refl
past-run p (b ∷ w) rest r e = let h = parts (p b) (all_pass p w) r in rw h.0 (past-run p w rest h.1 e)

letter_no_blank : (b : ℕ) → is_letter b ≡ true → is_blank b ≡ false
letter_no_blank b h = grind (arith, nat_tests)

digit_no_letter : (b : ℕ) → is_digit b ≡ true → is_letter b ≡ false
digit_no_letter b h = grind (arith, nat_tests)

digit_no_blank : (b : ℕ) → is_digit b ≡ true → is_blank b ≡ false
digit_no_blank b h = grind (arith, nat_tests)

-- ---- words

-- letters, digits and `_`, and one `.` among them with a name behind it, or none
abbrev pub has_one_point : List ℕ → Bool
has_one_point [] = true
has_one_point (b ∷ bs) = if is_in_name b then has_one_point bs else (is_point b bs && all_pass is_in_name bs)

-- a word that begins with a letter
abbrev pub is_word : List ℕ → Bool
is_word [] = false
is_word (b ∷ bs) = is_letter b && has_one_point bs

name_ends : (rest : List ℕ) → Ends is_in_word rest → Ends is_in_name rest
name_ends [] e = tt
name_ends (b ∷ bs) e = at (is_letter b) (is_digit b) (nat_eq b 46) e
  where
    at : (l d p : Bool) → (l || (d || p)) ≡ false → (l || d) ≡ false
    at true d p h = absurd cc
    at false true p h = absurd cc
    at false false p h = refl

point_ends : (b : ℕ) → is_in_word b ≡ false → nat_eq b 46 ≡ false
point_ends b e = at (is_letter b) (is_digit b) (nat_eq b 46) e
  where
    at : (l d p : Bool) → (l || (d || p)) ≡ false → p ≡ false
    at true d p h = absurd cc
    at false true p h = absurd cc
    at false false p h = h

-- no word goes on here
word_ended : (rest : List ℕ) → Ends is_in_word rest → (word_front rest ≡ []) × (word_past rest ≡ rest)
word_ended [] e = (refl, refl)
word_ended (b ∷ bs) e =
    let name : is_in_name b ≡ false = name_ends (b ∷ bs) e in
    (rw (name, point_ends b e) refl, rw (name, point_ends b e) refl)

begins-on : (w rest : List ℕ) → begins is_letter w ≡ true → begins is_letter (w ++ rest) ≡ true
begins-on [] rest h = absurd cc
begins-on (b ∷ w) rest h = h

word-run : (w rest : List ℕ) → has_one_point w ≡ true → Ends is_in_word rest
    → (word_front (w ++ rest) ≡ w) × (word_past (w ++ rest) ≡ rest)
word-run [] rest h e = word_ended rest e
word-run (b ∷ w) rest h e =
    at (is_in_name b) (nat_eq b 46) (begins is_letter w) (begins is_letter (w ++ rest)) (λ k. begins-on w rest k)
    (λ k. word-run w rest k e) h
  where
    at : (t u v v' : Bool) → (v ≡ true → v' ≡ true)
        → (has_one_point w ≡ true → (word_front (w ++ rest) ≡ w) × (word_past (w ++ rest) ≡ rest))
        → cond t (has_one_point w) ((u && v) && all_pass is_in_name w) ≡ true
        → (cond t (b ∷ word_front (w ++ rest)) (cond (u && v') (b ∷ front is_in_name (w ++ rest)) []) ≡ b ∷
        w) × (cond t (word_past (w ++ rest)) (cond (u && v') (past is_in_name (w ++ rest)) (b ∷ (w ++ rest))) ≡ rest)
    at true u v v' on rec k = let r = rec k in (ap (λ (l : List ℕ). b ∷ l) r.0, r.1)
    at false true true v' on rec k = rw (on refl) (
      ap (λ (l : List ℕ). b ∷ l) (front-run is_in_name w rest k (name_ends rest e)),
      past-run is_in_name w rest k (name_ends rest e),
    )
    at false true false v' on rec k = absurd cc
    at false false v v' on rec k = absurd cc

pub look-word : (w rest : List ℕ) → is_word w ≡ true → Ends is_in_word rest → look (w ++ rest) ≡ Ok (word w, rest)
unfolding look
look-word [] rest h e = absurd cc
look-word (b ∷ w) rest h e =
    let g = parts (is_letter b) (has_one_point w) h in
    let r = word-run w rest g.1 e in
    rw (letter_no_blank b g.0, g.0, r.0, r.1) refl

pub look-spaced : (bytes : List ℕ) → look (32 ∷ bytes) ≡ look bytes
unfolding look
look-spaced bytes = refl

-- ---- decimals

pub record IsDecimal (n : ℕ) (ds : List ℕ) : Type 0 where
  pub all : is_digits ds ≡ true
  pub value : value_after 0 ds ≡ n

value_after-push : (m : ℕ) (ds : List ℕ) (c : ℕ) → value_after m (ds ++ c ∷ []) ≡ 10 * value_after m ds + (c - 48)
value_after-push m [] c = refl
value_after-push m (d ∷ ds) c = value_after-push (10 * m + (d - 48)) ds c

digit_at : (d : ℕ) → d < 10 → is_digit (48 + d) ≡ true
digit_at d lt = rw (le-leb 48 (48 + d) (omega arith), le-leb (48 + d) 57 (omega arith)) refl

pass-push : (p : ℕ → Bool) (ds : List ℕ) (c : ℕ) → all_pass p ds ≡ true → p c ≡ true → all_pass p (ds ++ c ∷ []) ≡ true
pass-push p [] c h e = rw e refl
pass-push p (d ∷ ds) c h e = let g = parts (p d) (all_pass p ds) h in rw (g.0, pass-push p ds c g.1 e) refl

digits-push : (ds : List ℕ) (c : ℕ) → is_digits ds ≡ true → is_digit c ≡ true → is_digits (ds ++ c ∷ []) ≡ true
digits-push [] c h e = absurd cc
digits-push (d ∷ ds) c h e =
    let g = parts (is_digit d) (all_pass is_digit (d ∷ ds)) h in
    rw (g.0, (parts (is_digit d) (all_pass is_digit ((ds ++ c ∷ []))) (pass-push is_digit (d ∷ ds) c g.1 e)).1) refl

pub decimal_is : (n : ℕ) → n < 2 ^ 64 → IsDecimal n (decimal n)
decimal_is n lt =
    decimal_by_steps IsDecimal
    (λ n lt. record { all = rw (digit_at n lt) refl; value = omega arith })
    (λ n ds le h. record {
      all = digits-push ds (48 + n % 10) h.all (digit_at (n % 10) (omega arith));
      value = value_after-push 0 ds (48 + n % 10) ∙ omega (arith, h.value);
    })
    n lt

all_digits : (ds : List ℕ) → is_digits ds ≡ true → all_pass is_digit ds ≡ true
all_digits [] h = refl
all_digits (d ∷ ds) h = (parts (is_digit d) (all_pass is_digit (d ∷ ds)) h).1

look-digits : (ds rest : List ℕ) → is_digits ds ≡ true → Ends is_digit rest →
    look (ds ++ rest) ≡ Ok (digits (value_after 0 ds), rest)
unfolding look
look-digits [] rest h e = absurd cc
look-digits (d ∷ ds) rest h e =
    let g = parts (is_digit d) (all_pass is_digit (d ∷ ds)) h in
    let f : front is_digit (d ∷ (ds ++ rest)) ≡ d ∷ ds = front-run is_digit (d ∷ ds) rest g.1 e in
    let p : past is_digit (d ∷ (ds ++ rest)) ≡ rest = past-run is_digit (d ∷ ds) rest g.1 e in
    let first : past is_blank (d ∷ (ds ++ rest)) ≡ d ∷ (ds ++ rest) = rw (digit_no_blank d g.0) refl in
    let made : token_at (d ∷ (ds ++ rest)) ≡ Ok (
      digits (number_of (d ∷ (ds ++ rest))),
      past is_digit (d ∷ (ds ++ rest)),
    ) = rw (digit_no_letter d g.0, g.0) refl in
    ap token_at first ∙ made ∙ ap (λ (x : List ℕ). done (digits (value_after 0 x), past is_digit (d ∷ (ds ++ rest)))) f
    ∙ ap (λ (x : List ℕ). done (digits (value_after 0 (d ∷ ds)), x)) p

look-minus : (ds rest : List ℕ) → is_digits ds ≡ true → Ends is_digit rest →
    look (45 ∷ (ds ++ rest)) ≡ Ok (signed true (value_after 0 ds), rest)
unfolding look
look-minus [] rest h e = absurd cc
look-minus (d ∷ ds) rest h e =
    let g = parts (is_digit d) (all_pass is_digit (d ∷ ds)) h in
    let f : front is_digit (d ∷ (ds ++ rest)) ≡ d ∷ ds = front-run is_digit (d ∷ ds) rest g.1 e in
    let p : past is_digit (d ∷ (ds ++ rest)) ≡ rest = past-run is_digit (d ∷ ds) rest g.1 e in
    let made : token_at (45 ∷ (d ∷ (ds ++ rest))) ≡ Ok (
      signed true (number_of (d ∷ (ds ++ rest))),
      past is_digit (d ∷ (ds ++ rest)),
    ) = rw g.0 refl in
    made ∙ ap (λ (x : List ℕ). done (signed true (value_after 0 x), past is_digit (d ∷ (ds ++ rest)))) f ∙
    ap (λ (x : List ℕ). done (signed true (value_after 0 (d ∷ ds)), x)) p

pub look-decimal : (n : ℕ) (rest : List ℕ) → n < 2 ^ 64 → Ends is_digit rest → look (decimal n ++ rest) ≡ Ok (
  digits n,
  rest,
)
look-decimal n rest lt e = let d = decimal_is n lt in look-digits (decimal n) rest d.all e ∙
    ap (λ (x : ℕ). done (digits x, rest)) d.value

look-negative : (n : ℕ) (rest : List ℕ) → n < 2 ^ 64 → Ends is_digit rest →
    look (45 ∷ (decimal n ++ rest)) ≡ Ok (signed true n, rest)
look-negative n rest lt e = let d = decimal_is n lt in look-minus (decimal n) rest d.all e ∙
    ap (λ (x : ℕ). done (signed true x, rest)) d.value

-- ---- integers

-- an integer that texts can stand for
pub record IsValue (w b : ℕ) : Type 0 where
  pub some : 1 ≤ w
  pub few : w ≤ 64
  pub below : b < 2 ^ w

small_power : (w : ℕ) → w ≤ 64 → 2 ^ w ≤ 2 ^ 64
small_power w le = pow-le-pow_right {n = 2} (omega arith) le

digits_in_word : (ds : List ℕ) → all_pass is_digit ds ≡ true → has_one_point ds ≡ true
digits_in_word [] h = refl
digits_in_word (d ∷ ds) h =
    let g = parts (is_digit d) (all_pass is_digit ds) h in
    let here : is_in_name d ≡ true = rw (digit_no_letter d g.0, g.0) refl in
    rw (here, digits_in_word ds g.1) refl

type_is_word : (s : Signedness) (ds : List ℕ) → has_one_point ds ≡ true → is_word (letters s ++ ds) ≡ true
type_is_word Signed ds h = h
type_is_word Unsigned ds h = h
type_is_word Signless ds h = h

-- the token of an integer type's text, and that it stands for the type
pub look-type : (s : Signedness) (w : ℕ) (rest : List ℕ) → w < 2 ^ 64 → Ends is_in_word rest →
    look (integer_text s w ++ rest) ≡ Ok (word (integer_text s w), rest)
look-type s w rest lt e = let d = decimal_is w lt in
    look-word (integer_text s w) rest
    (type_is_word s (decimal w) (digits_in_word (decimal w) (all_digits (decimal w) d.all))) e

pub type_spelled : (s : Signedness) (w : ℕ) → w < 2 ^ 32 → SpellsInteger s w (word (integer_text s w) ∷ [])
type_spelled s w lt = let d = decimal_is w (omega arith) in
    record { written = decimal w; digits = d.all; value = d.value; few = lt; tokens = refl }

-- the token of a literal
abbrev pub literal_token : Bool → ℕ → ℕ → Token
literal_token s w b = cond (s && is_high w b) (signed true (2 ^ w - b)) (digits b)

high : (s : Bool) (w b : ℕ) → (s && is_high w b) ≡ true → 2 ^ (w - 1) ≤ b
high s w b e = leb-true (2 ^ (w - 1)) b (parts s (is_high w b) e).1

look-literal : (s : Bool) (w b : ℕ) (rest : List ℕ) → IsValue w b → Ends is_digit rest →
    look (literal s w b ++ rest) ≡ Ok (literal_token s w b, rest)
look-literal s w b rest h e = at (s && is_high w b) refl
  where
    at : (t : Bool) → (s && is_high w b) ≡ t
        → look (cond t (45 ∷ decimal (2 ^ w - b)) (decimal b) ++
        rest) ≡ Ok (cond t (signed true (2 ^ w - b)) (digits b), rest)
    at true f = look-negative (2 ^ w - b) rest (omega (
      arith,
      h.below,
      small_power w h.few,
      high s w b f,
      pow_pos (w - 1),
    )) e
    at false f = look-decimal b rest (omega (arith, h.below, small_power w h.few)) e

pub value_spelled : (s : Bool) (k : Signedness) (w b : ℕ) → IsValue w b →
    SpellsValue k w b (sign 60 ∷ literal_token s w b ∷ sign 58 ∷ word (integer_text k w) ∷ sign 62 ∷ [])
value_spelled s k w b h = at (s && is_high w b) refl
  where
    at : (t : Bool) → (s && is_high w b) ≡ t
        → SpellsValue k w b (sign 60 ∷ cond t (signed true (2 ^ w - b)) (digits b) ∷ sign 58 ∷ word (integer_text k w) ∷
        sign 62 ∷ [])
    at false f = record {
      negative = false;
      magnitude = b;
      literal = digits b;
      type = word (integer_text k w) ∷
          [];
      is_literal = (refl, refl);
      is_type = type_spelled k w (omega (arith, h.few));
      some = h.some;
      few =
          h.few;
      is_bits = (h.below, refl);
      tokens = refl;
    }
    at true f =
        let half : 2 ^ w ≡ 2 * 2 ^ (w - 1) = ap (λ (x : ℕ). 2 ^ x) (let k : w ≡ suc (w - 1) = omega (arith, h.some) in
        k) ∙ pow-succ' 2 (w - 1) in
        let back : 2 ^ w - (2 ^ w - b) ≡ b = omega (arith, h.below) in
        record {
          negative = true;
          magnitude = 2 ^ w - b;
          literal = signed true (2 ^ w - b);
          type = word
              (integer_text k w) ∷ [];
          is_literal = (refl, refl);
          is_type =
              type_spelled k w (omega (arith, h.few));
          some = h.some;
          few = h.few;
          is_bits =
              (omega (arith, half, high s w b f), sym (ap (λ (x : ℕ). x % 2 ^ w) back ∙ mod-eq_of_lt h.below));
          tokens =
              refl;
        }

look-integer : (rest : List ℕ) → look (codes "builtin.integer <" ++ rest) ≡ Ok (
  word (codes "builtin.integer"),
  32 ∷
      60 ∷ rest,
)
unfolding look
look-integer rest = refl

look-less : (rest : List ℕ) → look (32 ∷ 60 ∷ rest) ≡ Ok (sign 60, rest)
unfolding look
look-less rest = refl

literal-takes : (s : Bool) (w b : ℕ) (bytes rest : List ℕ) (ts : List Token) (end : List ℕ) →
    look bytes ≡ Ok (literal_token s w b, rest) → Begins rest ts end → Begins bytes (literal_token s w b ∷ ts) end
literal-takes s w b bytes rest ts end e m = at (s && is_high w b) e
  where
    at : (t : Bool) → look bytes ≡ Ok (cond t (signed true (2 ^ w - b)) (digits b), rest)
        → Begins bytes (cond t (signed true (2 ^ w - b)) (digits b) ∷ ts) end
    at true e = (rest, e, m)
    at false e = (rest, e, m)

abbrev pub value_text : Bool → Signedness → ℕ → ℕ → List ℕ
value_text s k w b = codes "builtin.integer <" ++ (literal s w b ++ (codes ": " ++ (integer_text k w ++ codes ">")))

pub integer-begins : (s : Bool) (k : Signedness) (w b : ℕ) (rest : List ℕ) → IsValue w b →
    Begins (value_text s k w b ++ rest) (word (codes "builtin.integer") ∷ sign 60 ∷ literal_token s w b ∷ sign 58 ∷
    word (integer_text k w) ∷ sign 62 ∷ []) rest
integer-begins s k w b rest h =
    let behind : List ℕ = 58 ∷ 32 ∷ (integer_text k w ++ (62 ∷ rest)) in
    let shape : (literal s w b ++ (codes ": " ++ (integer_text k w ++ codes ">"))) ++ rest ≡ literal s w b ++ behind =
    append_assoc (literal s w b) (codes ": " ++ (integer_text k w ++ codes ">")) rest ∙
    ap (λ (x : List ℕ). literal s w b ++ (58 ∷ 32 ∷ x)) (append_assoc (integer_text k w) (codes ">") rest) in
    let type_word = look-spaced (integer_text k w ++ (62 ∷ rest)) ∙
    look-type k w (62 ∷ rest) (omega (arith, h.few)) refl in
    let inner : Begins behind (sign 58 ∷ word (integer_text k w) ∷ sign 62 ∷ []) rest = (
      32 ∷ (integer_text k w ++ (62 ∷ rest)),
      look-sign 58 refl _,
      (62 ∷ rest, type_word, (rest, look-sign 62 refl rest, refl)),
    ) in
    subst (λ (x : List ℕ). Begins (codes "builtin.integer <" ++ x) (word (codes "builtin.integer") ∷ sign 60 ∷
    literal_token s w b ∷ sign 58 ∷ word (integer_text k w) ∷ sign 62 ∷ []) rest) (sym shape) (
      32 ∷ 60 ∷ (literal s w b ++ behind),
      look-integer _,
      (
        literal s w b ++ behind,
        look-less _,
        literal-takes s w b (literal s w b ++ behind) behind (sign 58 ∷ word (integer_text k w) ∷ sign 62 ∷
            []) rest (look-literal s w b behind h refl) inner,
      ),
    )
