-- What the calls of attributes answer.
use Rattle.std.specs.Prelude.{ℕ, List, Bool, true, false, Option, Some, None, codes}
use Rattle.plir_data.specs.AttrView.{Leaf, identifier, string, bool, integer, unit, type_of, operand_segment_sizes}
use Rattle.plir_data.specs.AttrView.{given_names, own, AttrView, leaf, dict, vec}

module _ {A : Type 0} where
  -- the id of an attribute; `own_id` gives that of the user's own
  abbrev pub leaf_id : (own_id : A → List ℕ) → Leaf A → List ℕ
  leaf_id own_id (identifier w) = codes "builtin.identifier"
  leaf_id own_id (string s) = codes "builtin.string"
  leaf_id own_id (bool b) = codes "builtin.bool"
  leaf_id own_id (integer t w b) = codes "builtin.integer"
  leaf_id own_id unit = codes "builtin.unit"
  leaf_id own_id (type_of t) = codes "builtin.type"
  leaf_id own_id (operand_segment_sizes ns) = codes "builtin.operand_segment_sizes"
  leaf_id own_id (given_names ns) = codes "builtin.given_names"
  leaf_id own_id (own a) = own_id a

  abbrev pub attr_id : (own_id : A → List ℕ) → AttrView A → List ℕ
  attr_id own_id (leaf x) = leaf_id own_id x
  attr_id own_id (dict es) = codes "builtin.dict"
  attr_id own_id (vec xs) = codes "builtin.vec"

  -- the type of an attribute that has one
  abbrev pub attr_type : (own_type : A → Option ℕ) → AttrView A → Option ℕ
  attr_type own_type (leaf (integer t w b)) = Some t
  attr_type own_type (leaf (type_of t)) = Some t
  attr_type own_type (leaf (own a)) = own_type a
  attr_type own_type _ = None

  -- the type that an attribute holds which is nothing but a type
  abbrev pub type_in_attr : AttrView A → Option ℕ
  type_in_attr (leaf (type_of t)) = Some t
  type_in_attr _ = None

  -- given names are left out of an operation's text, and of the user's own those that say so
  abbrev pub is_outlined : (own_outlined : A → Bool) → AttrView A → Bool
  is_outlined own_outlined (leaf (given_names ns)) = true
  is_outlined own_outlined (leaf (own a)) = own_outlined a
  is_outlined own_outlined _ = false
