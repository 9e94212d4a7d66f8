-- Which fault a text meets where an operation has to stand, and where that is seen.
use Rattle.std.specs.Prelude.{◌≡◌, ◌≢◌, ◌⊎◌, ◌<◌, ◌≤◌, ◌-◌, ◌^◌, ℕ, List, [], ◌∷◌, ◌++◌, length, Bool, true, false}
use Rattle.std.specs.Prelude.{codes}
use Rattle.std.specs.Prelude.{Ok, Err}
use Rattle.std.specs.Str.{is_utf8}
use Rattle.plir_data.specs.Identifier.{is_digit}
use Rattle.plir_data.specs.TypeText.{letters}
use Rattle.plir_data.specs.declared.types.Signedness.{Signedness}
use Rattle.plir_attr_text.specs.AttrGrammar.{SpellsLiteral}
use Rattle.plir_attr_text.specs.Bytes.{is_blank, past, front, value_after}
use Rattle.plir_attr_text.specs.Strings.{string_at}
use Rattle.plir_attr_text.specs.Tokens.{Token, word, digits, sign, look, Begins}
use Rattle.plir_attr_text.specs.TypeGrammar.{SpellsInteger}
use Rattle.plir_attr_text.specs.Wholes.{whole}
use Rattle.plir_attr_text.specs.declared.fault.Fault.{Fault}
use Rattle.plir_attr_text.specs.declared.fault.Fault.TheVariants.{Unexpected, BadEscape, IntegerOutOfRange}
use Rattle.plir_attr_text.specs.declared.fault.Fault.TheVariants.{IntegerWidthUnsupported, TooDeep, Memory}
use Rattle.plir_attr_text.specs.declared.fault.Fault.TheVariants.{ForwardRefOpExistenceErr, NResultsVerifyErr}
use Rattle.plir_attr_text.specs.declared.fault.Fault.TheVariants.{TooManyNodes}
use Rattle.plir_read.specs.OpReading.{op_at}

-- With at most n levels open the text meets this fault: what has to stand there is looked for from left to right, as
-- the grammar has it, and this is the first that is wrong. A level that is one too many comes before what is in it, and
-- a number of names before what stands behind the id.
abbrev pub Meets : (n : ℕ) → (text : List ℕ) → Fault → Type 0
Meets n text f = whole (op_at n) text ≡ Err f

-- ---- what is wrong

-- more names of results with commas between them, up to `=`, and an id
abbrev pub more_names_and_id : List (List ℕ) → (id : List ℕ) → List Token
more_names_and_id [] id = sign 61 ∷ word id ∷ []
more_names_and_id (w ∷ ws) id = sign 44 ∷ word w ∷ more_names_and_id ws id

-- what an operation begins with: an id, and before it `=` and names of results, if there are some
abbrev pub names_and_id : List (List ℕ) → (id : List ℕ) → List Token
names_and_id [] id = word id ∷ []
names_and_id (w ∷ ws) id = word w ∷ more_names_and_id ws id

-- the operation that an id names has so many results
abbrev pub HasResults : (id : List ℕ) → ℕ → Type 0
HasResults id n = ((id ≡ codes "builtin.module") × (n ≡ 0)) ⊎ (((id ≡ codes "builtin.func") × (n ≡ 0)) ⊎
    ((id ≡ codes "builtin.constant") × (n ≡ 1)))

-- the letters of an integer type, and digits of a width that is two to the 32 or more
abbrev pub IsTooWide : List Token → Type 0
IsTooWide ts = (s : Signedness) × (ds : List ℕ) × (2 ^ 32 ≤ value_after 0 (front is_digit ds)) ×
    (ts ≡ word (letters s ++ ds) ∷ [])

-- the size of a segment that is two to the 32 or more
abbrev pub IsTooLarge : List Token → Type 0
IsTooLarge ts = (n : ℕ) × (2 ^ 32 ≤ n) × (ts ≡ digits n ∷ [])

-- `<V: T>`, by its literal and the width of its type
pub record IsValueOf (negative : Bool) (magnitude width : ℕ) (ts : List Token) : Type 0 where
  pub literal : Token
  pub signedness : Signedness
  pub type : List Token
  pub is_literal : SpellsLiteral negative magnitude literal
  pub is_type : SpellsInteger signedness width type
  pub tokens : ts ≡ sign 60 ∷ literal ∷ sign 58 ∷ (type ++ (sign 62 ∷ []))

-- a width that has no values of integers
abbrev pub IsUnsupported : (width : ℕ) → Type 0
IsUnsupported width = (width < 1) ⊎ (64 < width)

-- a literal that is no value in a width
abbrev pub IsOutside : (negative : Bool) → (magnitude width : ℕ) → Type 0
IsOutside true magnitude width = 2 ^ (width - 1) < magnitude
IsOutside false magnitude width = 2 ^ width ≤ magnitude

-- These tokens are what is wrong: one that can't stand there; a word where no level is left to begin with it; a number
-- that is out of range; an integer whose width has no values; a forward reference; an id with another number of names
-- before it than its operation has results.
abbrev pub IsWrong : Fault → List Token → Type 0
IsWrong Unexpected ts = (t : Token) × (ts ≡ t ∷ [])
IsWrong TooDeep ts = (w : List ℕ) × (ts ≡ word w ∷ [])
IsWrong IntegerOutOfRange ts = IsTooWide ts ⊎ (IsTooLarge ts ⊎ ((negative : Bool) × (magnitude : ℕ) × (width : ℕ) ×
    IsValueOf negative magnitude width ts × IsOutside negative magnitude width))
IsWrong IntegerWidthUnsupported ts = (negative : Bool) × (magnitude : ℕ) × (width : ℕ) ×
    IsValueOf negative magnitude width ts × IsUnsupported width
IsWrong ForwardRefOpExistenceErr ts = (names : List (List ℕ)) ×
    (ts ≡ names_and_id names (codes "builtin.forward_ref"))
IsWrong (NResultsVerifyErr expected found) ts = (names : List (List ℕ)) × (id : List ℕ) ×
    (ts ≡ names_and_id names id) × HasResults id expected × (length names ≡ found) × (expected ≢ found)
IsWrong BadEscape ts = ⊥
IsWrong Memory ts = ⊥
IsWrong TooManyNodes ts = ⊥

-- What is quoted is wrong: it is cut, or has an escape that stands for nothing; or it isn't UTF-8.
abbrev pub IsWrongString : Fault → (inside : List ℕ) → Type 0
IsWrongString f inside = (string_at inside ≡ Err f) ⊎ ((f ≡ Unexpected) × ((q : List ℕ) × (rest : List ℕ) ×
    (string_at inside ≡ Ok (q, rest)) × (is_utf8 q ≡ false)))

-- ---- where it is seen

-- What has to be known of a text behind some tokens: nothing, or that it ends there, or that a string comes, with this
-- behind its first `"`.
pub data Behind : Type 0 where
  anything : Behind
  the_end : Behind
  a_string : (inside : List ℕ) → Behind

-- so it comes
abbrev pub Comes : Behind → (rest : List ℕ) → Type 0
Comes anything rest = Unit {0}
Comes the_end rest = past is_blank rest ≡ []
Comes (a_string inside) rest = look rest ≡ Ok (sign 34, inside)

-- The cause of the fault: the last of the tokens are wrong; or the text is cut behind them; or the string is wrong that
-- comes there.
abbrev pub IsCause : Fault → List Token → Behind → Type 0
IsCause f ts anything = (before : List Token) × (wrong : List Token) × IsWrong f wrong × (ts ≡ before ++ wrong)
IsCause f ts the_end = f ≡ Unexpected
IsCause f ts (a_string inside) = IsWrongString f inside

-- The tokens with which the text begins, up to the cause of the fault, decide: P holds of each text that begins with
-- them, whatever stands behind the cause.
pub record IsDecided (P : List ℕ → Type 0) (text : List ℕ) (f : Fault) : Type 0 where
  pub tokens : List Token
  pub rest : List ℕ
  pub begins : Begins text tokens rest
  pub behind : Behind
  pub comes : Comes behind rest
  pub cause : IsCause f tokens behind
  pub decided : (other r : List ℕ) → Begins other tokens r → Comes behind r → P other
