-- Which tokens stand for an attribute.
use Rattle.std.specs.Prelude.{◌≡◌, ℕ, ◌-◌, ◌^◌, ◌%◌, ◌<◌, ◌≤◌, List, [], ◌∷◌, ◌++◌, Bool, true, false, Option, Some}
use Rattle.std.specs.Prelude.{None, codes, IsUtf8}
use Rattle.plir_data.specs.{declared.types.Signedness.Signedness, Identifier.is_identifier}
use Rattle.plir_attr_text.specs.Terms as terms
use Rattle.plir_attr_text.specs.Terms.{AttrTerm, AttrTerms, no_attrs, attr_before, EntryTerms, no_entries, entry_before}
use Rattle.plir_attr_text.specs.Terms.{levels}
use Rattle.plir_attr_text.specs.Tokens.{Token, word, digits, signed, quoted, arrow, sign}
use Rattle.plir_attr_text.specs.TypeGrammar.{enclosed, SpellsInteger, SpellsType}

abbrev pub truth : Bool → List ℕ
truth true = codes "true"
truth false = codes "false"

-- a literal, by whether it is negative and by its magnitude
abbrev pub SpellsLiteral : Bool → ℕ → Token → Type 0
SpellsLiteral negative magnitude (digits n) = (negative ≡ false) × (n ≡ magnitude)
SpellsLiteral negative magnitude (signed s n) = (s ≡ negative) × (n ≡ magnitude)
SpellsLiteral negative magnitude (word w) = ⊥
SpellsLiteral negative magnitude (quoted q) = ⊥
SpellsLiteral negative magnitude arrow = ⊥
SpellsLiteral negative magnitude (sign b) = ⊥

-- the bits of a literal, modulo two to the width
abbrev pub IsBits : (negative : Bool) → (magnitude width bits : ℕ) → Type 0
IsBits false magnitude width bits = (magnitude < 2 ^ width) × (bits ≡ magnitude)
IsBits true magnitude width bits = (magnitude ≤ 2 ^ (width - 1)) × (bits ≡ (2 ^ width - magnitude) % 2 ^ width)

-- an identifier
abbrev pub SpellsIdentifier : List ℕ → List Token → Type 0
SpellsIdentifier w ts = (is_identifier w ≡ true) × (ts ≡ word w ∷ [])

abbrev pub SpellsString : List ℕ → List Token → Type 0
SpellsString s ts = IsUtf8 s × (ts ≡ quoted s ∷ [])

abbrev pub SpellsTruth : Bool → List Token → Type 0
SpellsTruth b ts = ts ≡ word (truth b) ∷ []

-- `<V: T>`
pub record SpellsValue (signedness : Signedness) (width bits : ℕ) (ts : List Token) : Type 0 where
  pub negative : Bool
  pub magnitude : ℕ
  pub literal : Token
  pub type : List Token
  pub is_literal : SpellsLiteral negative magnitude literal
  pub is_type : SpellsInteger signedness width type
  pub some : 1 ≤ width
  pub few : width ≤ 64
  pub is_bits : IsBits negative magnitude width bits
  pub tokens : ts ≡ sign 60 ∷ literal ∷ sign 58 ∷ (type ++ (sign 62 ∷ []))

-- one thing or more, each behind a comma
abbrev pub SpellsMore : {X : Type 0} → (X → List Token → Type 0) → List X → List Token → Type 0
SpellsMore E [] ts = ts ≡ []
SpellsMore E (x ∷ xs) ts = (first more : List Token) × E x first × SpellsMore E xs more × (ts ≡ sign 44 ∷
    (first ++ more))

-- things with commas between them
abbrev pub SpellsSeveral : {X : Type 0} → (X → List Token → Type 0) → List X → List Token → Type 0
SpellsSeveral E [] ts = ts ≡ []
SpellsSeveral E (x ∷ xs) ts = (first more : List Token) × E x first × SpellsMore E xs more × (ts ≡ first ++ more)

abbrev pub SpellsSize : ℕ → List Token → Type 0
SpellsSize n ts = (n < 2 ^ 32) × (ts ≡ digits n ∷ [])

-- a given name, or `?`
abbrev pub SpellsName : Option (List ℕ) → List Token → Type 0
SpellsName None ts = ts ≡ sign 63 ∷ []
SpellsName (Some w) ts = SpellsIdentifier w ts

-- an attribute: its id, and what stands behind it
abbrev mutual
  pub Spells : AttrTerm → List Token → Type 0
  Spells (terms.identifier w) ts =
      (behind : List Token) × SpellsIdentifier w behind × (ts ≡ word (codes "builtin.identifier") ∷ behind)
  Spells (terms.string s) ts = (behind : List Token) × SpellsString s behind × (ts ≡ word (codes "builtin.string") ∷
      behind)
  Spells (terms.bool b) ts = (behind : List Token) × SpellsTruth b behind × (ts ≡ word (codes "builtin.bool") ∷ behind)
  Spells (terms.integer s w b) ts =
      (behind : List Token) × SpellsValue s w b behind × (ts ≡ word (codes "builtin.integer") ∷ behind)
  Spells terms.unit ts = ts ≡ word (codes "builtin.unit") ∷ []
  Spells (terms.type t) ts = (behind : List Token) × SpellsType t behind × (ts ≡ word (codes "builtin.type") ∷ behind)
  Spells (terms.operand_segment_sizes ns) ts = (inner : List Token) × SpellsSeveral SpellsSize ns inner ×
      (ts ≡ word (codes "builtin.operand_segment_sizes") ∷ enclosed 91 inner 93)
  Spells (terms.given_names ns) ts = (inner : List Token) × SpellsSeveral SpellsName ns inner ×
      (ts ≡ word (codes "builtin.given_names") ∷ enclosed 91 inner 93)
  Spells (terms.dict es) ts = (inner : List Token) × SpellsEntries es inner × (ts ≡ word (codes "builtin.dict") ∷
      enclosed 91 inner 93)
  Spells (terms.vec xs) ts = (inner : List Token) × SpellsItems xs inner × (ts ≡ word (codes "builtin.vec") ∷
      enclosed 91 inner 93)

  -- attributes with commas between them
  pub SpellsItems : AttrTerms → List Token → Type 0
  SpellsItems no_attrs ts = ts ≡ []
  SpellsItems (attr_before x xs) ts = (first more : List Token) × Spells x first × SpellsMoreItems xs more ×
      (ts ≡ first ++ more)

  pub SpellsMoreItems : AttrTerms → List Token → Type 0
  SpellsMoreItems no_attrs ts = ts ≡ []
  SpellsMoreItems (attr_before x xs) ts = (first more : List Token) × Spells x first × SpellsMoreItems xs more ×
      (ts ≡ sign 44 ∷ (first ++ more))

  -- keys with their attributes, with commas between them
  pub SpellsEntries : EntryTerms → List Token → Type 0
  SpellsEntries no_entries ts = ts ≡ []
  SpellsEntries (entry_before k x es) ts = (first more : List Token) × (is_identifier k ≡ true) × Spells x first ×
      SpellsMoreEntries es more × (ts ≡ word k ∷ sign 61 ∷ (first ++ more))

  pub SpellsMoreEntries : EntryTerms → List Token → Type 0
  SpellsMoreEntries no_entries ts = ts ≡ []
  SpellsMoreEntries (entry_before k x es) ts = (first more : List Token) × (is_identifier k ≡ true) × Spells x first ×
      SpellsMoreEntries es more × (ts ≡ sign 44 ∷ word k ∷ sign 61 ∷ (first ++ more))

-- with at most n levels open
abbrev pub AttrWithin : ℕ → AttrTerm → List Token → Type 0
AttrWithin n x ts = Spells x ts × (levels x ≤ n)
