-- Which tokens stand for the header of an own operation.
use Rattle.std.specs.Prelude.{◌≡◌, ℕ, ◌≤◌, List, [], ◌∷◌, ◌++◌, length, Bool, true, nat_eq, Option, Some}
use Rattle.std.specs.List.{list_any}
use Rattle.plir_data.specs.Identifier.{is_identifier}
use Rattle.plir_attr_text.specs.Tokens.{Token, word, sign}
use Rattle.plir_attr_text.specs.AttrGrammar.{SpellsIdentifier, SpellsSeveral, SpellsEntries}
use Rattle.plir_attr_text.specs.TypeGrammar.{enclosed, SpellsFunction}
use Rattle.plir_read_own.specs.OwnTerms.{Uses, Signature, num_types, Header, header_levels}

-- names of results with commas between them, and `=`; nothing stands for none
abbrev pub SpellsNames : List (List ℕ) → List Token → Type 0
SpellsNames [] ts = ts ≡ []
SpellsNames (w ∷ ws) ts = (inner : List Token) × SpellsSeveral SpellsIdentifier (w ∷ ws) inner × (ts ≡ inner ++
    sign 61 ∷ [])

-- whether a word has a point in it, as an id has
abbrev pub has_point : List ℕ → Bool
has_point w = list_any (λ b. nat_eq b 46) w

-- the id of a kind
abbrev pub SpellsKind : {K : Type 0} → (find : List ℕ → Option K) → K → List Token → Type 0
SpellsKind find k ts = (id : List ℕ) × (has_point id ≡ true) × (find id ≡ Some k) × (ts ≡ word id ∷ [])

-- `^label`
abbrev pub SpellsLabel : List ℕ → List Token → Type 0
SpellsLabel w ts = (is_identifier w ≡ true) × (ts ≡ sign 94 ∷ word w ∷ [])

-- `(operand, operand) [^label, ^label]`
abbrev pub SpellsUses : Uses → List Token → Type 0
SpellsUses u ts = (operands successors : List Token) × SpellsSeveral SpellsIdentifier u.operands operands ×
    SpellsSeveral SpellsLabel u.successors successors × (ts ≡ enclosed 40 operands 41 ++ enclosed 91 successors 93)

-- `<(TYPE, TYPE)->(TYPE)>`
abbrev pub SpellsSignature : Signature → List Token → Type 0
SpellsSignature t ts = SpellsFunction t.operand_types t.result_types ts

-- `name = id (operand, operand) [^label, ^label] [key = ATTR, key = ATTR]: <(TYPE, TYPE)->(TYPE)>`, with a type for
-- each operand and for each name of a result
pub record SpellsHeader {K : Type 0} (find : List ℕ → Option K) (h : Header K) (ts : List Token) : Type 0 where
  pub names : List Token
  pub id : List Token
  pub uses : List Token
  pub entries : List Token
  pub signature : List Token
  pub are_names : SpellsNames h.names names
  pub is_id : SpellsKind find h.kind id
  pub are_uses : SpellsUses h.uses uses
  pub are_entries : SpellsEntries h.entries entries
  pub is_signature : SpellsSignature h.signature signature
  pub typed_operands : length h.uses.operands ≡ num_types h.signature.operand_types
  pub typed_results : num_types h.signature.result_types ≡ length h.names
  pub tokens : ts ≡ names ++ (id ++ (uses ++ (enclosed 91 entries 93 ++ sign 58 ∷ signature)))

-- with at most n levels in it
abbrev pub HeaderWithin : {K : Type 0} → (find : List ℕ → Option K) → ℕ → Header K → List Token → Type 0
HeaderWithin find n h ts = SpellsHeader find h ts × (header_levels h ≤ n)
