-- Which tokens stand for a type.
use Rattle.std.specs.Prelude.{◌≡◌, ℕ, ◌^◌, ◌<◌, ◌≤◌, List, [], ◌∷◌, ◌++◌, true, codes}
use Rattle.plir_data.specs.{declared.types.Signedness.Signedness, TypeText.letters}
use Rattle.plir_attr_text.specs.Bytes.{is_digits, value_after}
use Rattle.plir_attr_text.specs.Terms.{TypeTerm, integer_type, function_type, unit_type, TypeTerms, no_types}
use Rattle.plir_attr_text.specs.Terms.{type_before, type_levels}
use Rattle.plir_attr_text.specs.Tokens.{Token, word, arrow, sign, IsTokens}

-- `si`, `ui` or `i` and the digits of a width, which stand in one word
pub record SpellsInteger (signedness : Signedness) (width : ℕ) (ts : List Token) : Type 0 where
  pub written : List ℕ
  pub digits : is_digits written ≡ true
  pub value : value_after 0 written ≡ width
  pub few : width < 2 ^ 32
  pub tokens : ts ≡ word (letters signedness ++ written) ∷ []

-- items in brackets
abbrev pub enclosed : ℕ → List Token → ℕ → List Token
enclosed open_ inner close = sign open_ ∷ (inner ++ sign close ∷ [])

-- `<(..)->(..)>`
abbrev pub in_angles : List Token → List Token → List Token
in_angles first second = sign 60 ∷ (enclosed 40 first 41 ++ (arrow ∷ (enclosed 40 second 41 ++ (sign 62 ∷ []))))

abbrev mutual
  pub SpellsType : TypeTerm → List Token → Type 0
  SpellsType (integer_type s w) ts =
      (behind : List Token) × SpellsInteger s w behind × (ts ≡ word (codes "builtin.integer") ∷ behind)
  SpellsType (function_type as_ rs) ts = (first second : List Token) × SpellsTypes as_ first × SpellsTypes rs second ×
      (ts ≡ word (codes "builtin.function") ∷ in_angles first second)
  SpellsType unit_type ts = ts ≡ word (codes "builtin.unit") ∷ []

  -- types with commas between them
  pub SpellsTypes : TypeTerms → List Token → Type 0
  SpellsTypes no_types ts = ts ≡ []
  SpellsTypes (type_before x xs) ts = (first more : List Token) × SpellsType x first × SpellsMoreTypes xs more ×
      (ts ≡ first ++ more)

  -- a comma before each type
  pub SpellsMoreTypes : TypeTerms → List Token → Type 0
  SpellsMoreTypes no_types ts = ts ≡ []
  SpellsMoreTypes (type_before x xs) ts = (first more : List Token) × SpellsType x first × SpellsMoreTypes xs more ×
      (ts ≡ sign 44 ∷ (first ++ more))

-- a function type behind its id
abbrev pub SpellsFunction : TypeTerms → TypeTerms → List Token → Type 0
SpellsFunction as_ rs ts = (first second : List Token) × SpellsTypes as_ first × SpellsTypes rs second ×
    (ts ≡ in_angles first second)

-- with at most n levels open
abbrev pub TypeWithin : ℕ → TypeTerm → List Token → Type 0
TypeWithin n t ts = SpellsType t ts × (type_levels t ≤ n)

abbrev pub IsInteger : Signedness × ℕ → List Token → Type 0
IsInteger x ts = SpellsInteger x.0 x.1 ts

abbrev pub FunctionWithin : ℕ → TypeTerms × TypeTerms → List Token → Type 0
FunctionWithin n x ts = SpellsFunction x.0 x.1 ts × (type_levels (function_type x.0 x.1) ≤ n)

-- The whole text is tokens that stand for x.
pub record IsText {X : Type 0} (E : X → List Token → Type 0) (bytes : List ℕ) (x : X) : Type 0 where
  pub tokens : List Token
  pub are_tokens : IsTokens bytes tokens
  pub spelled : E x tokens
