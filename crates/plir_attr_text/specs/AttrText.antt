-- The text of an attribute.
use Rattle.std.specs.Prelude.{ℕ, List, [], ◌++◌, Bool, false, codes, Option, Some}
use Rattle.std.specs.Fmt.{decimal}
use Rattle.plir_data.specs.AttrView.{Leaf, identifier, string, bool, integer, unit, type_of, operand_segment_sizes}
use Rattle.plir_data.specs.AttrView.{given_names, own, AttrView, leaf, dict, vec, Items, no_items, item, Entries}
use Rattle.plir_data.specs.AttrView.{no_entries, entry}
use Rattle.plir_data.specs.{OwnParts.Part, OwnParts.behind_id, Integers.literal}
use Rattle.plir_data.specs.Types as types
use Rattle.plir_data.specs.{Types.TypeView, Types.type_at, Types.prints_as_signed, TypeText.integer_text}
use Rattle.plir_data.specs.{TypeText.type_text, TextParts.parted}
use Rattle.plir_attr_text.specs.{AttrGrammar.truth, Written.quotation, Written.name_or_mark}

module _ {T : Type 0} where
  -- whether values of a type are written with a sign
  abbrev pub is_signed : Option (TypeView T) → Bool
  is_signed (Some (types.integer s width)) = prints_as_signed s width
  is_signed _ = false

  -- the type of an integer, without its id; a type of another kind, as a handle may name it in a table that isn't its
  -- own, in whole
  abbrev pub bare_text : (whole : List ℕ) → Option (TypeView T) → List ℕ
  bare_text whole (Some (types.integer s width)) = integer_text s width
  bare_text whole _ = whole

-- `own_id` and `own_body` give the id of an attribute of the user's own and the parts behind it, `type_id` and
-- `type_body` those of a type.
module _ {A T : Type 0} (own_id : A → List ℕ) (own_body : A → List Part) (type_id : T →
    List ℕ) (type_body : T → List Part) (table : List (TypeView T)) where
  abbrev pub leaf_text : Leaf A → List ℕ
  leaf_text (identifier w) = codes "builtin.identifier " ++ w
  leaf_text (string s) = codes "builtin.string " ++ quotation s
  leaf_text (bool b) = codes "builtin.bool " ++ truth b
  leaf_text (integer handle width bits) = codes "builtin.integer <" ++
      (literal (is_signed (type_at table handle)) width bits ++
      (codes ": " ++ (bare_text (type_text type_id type_body table handle) (type_at table handle) ++ codes ">")))
  leaf_text unit = codes "builtin.unit"
  leaf_text (type_of handle) = codes "builtin.type " ++ type_text type_id type_body table handle
  leaf_text (operand_segment_sizes ns) = codes "builtin.operand_segment_sizes [" ++
      (parted (codes ", ") decimal ns ++ codes "]")
  leaf_text (given_names ns) = codes "builtin.given_names [" ++ (parted (codes ", ") name_or_mark ns ++ codes "]")
  leaf_text (own a) = own_id a ++ behind_id (type_text type_id type_body table) (own_body a)

  abbrev mutual
    pub attr_text : AttrView A → List ℕ
    attr_text (leaf x) = leaf_text x
    attr_text (dict es) = codes "builtin.dict [" ++ (entries_text es ++ codes "]")
    attr_text (vec xs) = codes "builtin.vec [" ++ (items_text xs ++ codes "]")

    -- attributes, with a comma and a space between them
    pub items_text : Items A → List ℕ
    items_text no_items = []
    items_text (item x xs) = attr_text x ++ more_items_text xs

    pub more_items_text : Items A → List ℕ
    more_items_text no_items = []
    more_items_text (item x xs) = codes ", " ++ (attr_text x ++ more_items_text xs)

    -- keys with their attributes, with a comma and a space between them
    pub entries_text : Entries A → List ℕ
    entries_text no_entries = []
    entries_text (entry k x es) = k ++ (codes " = " ++ (attr_text x ++ more_entries_text es))

    pub more_entries_text : Entries A → List ℕ
    more_entries_text no_entries = []
    more_entries_text (entry k x es) = codes ", " ++ (k ++ (codes " = " ++ (attr_text x ++ more_entries_text es)))

  -- a key with its attribute
  abbrev pub entry_text : List ℕ × AttrView A → List ℕ
  entry_text e = e.0 ++ (codes " = " ++ attr_text e.1)
