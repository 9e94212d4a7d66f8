-- Which types are written in a text.
use Rattle.std.specs.Prelude.{◌⊎◌, ℕ, List, ◌++◌}
use Rattle.plir_attr_text.specs.AttrGrammar.{Spells}
use Rattle.plir_attr_text.specs.Terms as terms
use Rattle.plir_attr_text.specs.Terms.{TypeTerm, integer_type, function_type, unit_type}
use Rattle.plir_attr_text.specs.Tokens.{Token, Begins}
use Rattle.plir_attr_text.specs.TypeGrammar.{SpellsInteger, SpellsFunction, SpellsType}

-- an integer of the type, in which that stands without its id
abbrev pub SpellsIntegerOf : TypeTerm → List Token → Type 0
SpellsIntegerOf (integer_type s width) ts = (bits : ℕ) × Spells (terms.integer s width bits) ts
SpellsIntegerOf (function_type as_ rs) ts = ⊥
SpellsIntegerOf unit_type ts = ⊥

-- The type is written in the text: behind other tokens, which the text begins with, come tokens that stand for the type
-- or for an integer of it.
pub record IsWrittenIn (text : List ℕ) (t : TypeTerm) : Type 0 where
  pub before : List Token
  pub tokens : List Token
  pub behind : List ℕ
  pub stand : Begins text (before ++ tokens) behind
  pub spelled : SpellsType t tokens ⊎ SpellsIntegerOf t tokens

-- what stands behind the id of an integer or a function type
abbrev pub SpellsBare : TypeTerm → List Token → Type 0
SpellsBare (integer_type s width) ts = SpellsInteger s width ts
SpellsBare (function_type as_ rs) ts = SpellsFunction as_ rs ts
SpellsBare unit_type ts = ⊥

-- the text begins with the type, without its id
abbrev pub IsWrittenBare : List ℕ → TypeTerm → Type 0
IsWrittenBare text t = (tokens : List Token) × (behind : List ℕ) × Begins text tokens behind × SpellsBare t tokens
