-- The texts of attributes, by the answers of an op set as `D.OpSet` gives them.
use Rattle.std.specs.Prelude.{ℕ, List}
use Rattle.plir_data.specs.{AttrView.AttrView, AttrView.Items, AttrView.Entries, AttrView.Leaf, Types.TypeView}
use Rattle.plir_data.specs.declared.op_set.OpSet as op_set
use Rattle.plir_attr_text.specs.AttrText.{attr_text, leaf_text, items_text, entries_text, entry_text}

module _ {D K A T E : Type 0} (o : op_set.Ghosts D K A T E) (types : List (TypeView T)) where
  -- the text of an attribute, of one that is a leaf, and of a key with its attribute
  abbrev pub attribute_text : AttrView A → List ℕ
  attribute_text x = attr_text o.attr_id o.attr_text o.type_id o.type_body_text types x

  abbrev pub plain_text : Leaf A → List ℕ
  plain_text x = leaf_text o.attr_id o.attr_text o.type_id o.type_body_text types x

  abbrev pub pair_text : List ℕ × AttrView A → List ℕ
  pair_text e = entry_text o.attr_id o.attr_text o.type_id o.type_body_text types e

  -- attributes, and keys with their attributes, with a comma and a space between them
  abbrev pub attributes_text : Items A → List ℕ
  attributes_text xs = items_text o.attr_id o.attr_text o.type_id o.type_body_text types xs

  abbrev pub pairs_text : Entries A → List ℕ
  pairs_text es = entries_text o.attr_id o.attr_text o.type_id o.type_body_text types es
