-- Equality of attributes.
use Rattle.std.specs.Prelude.{Bool, true, false, ◌&&◌, nat_eq}
use Rattle.std.specs.Cmp.Lexicographic.{pointwise}
use Rattle.std.specs.Option.{option_eq}
use Rattle.plir_data.specs.AttrView.{Leaf, identifier, string, bool, integer, unit, type_of, operand_segment_sizes}
use Rattle.plir_data.specs.AttrView.{given_names, own, AttrView, leaf, dict, vec, Items, no_items, item, Entries}
use Rattle.plir_data.specs.AttrView.{no_entries, entry}

module _ {A : Type 0} where
  -- whether two attributes are equal: of one kind, with equal parts
  abbrev pub leaf_eq : (own_eq : A → A → Bool) → Leaf A → Leaf A → Bool
  leaf_eq own_eq (identifier v) (identifier w) = pointwise nat_eq v w
  leaf_eq own_eq (string s) (string t) = pointwise nat_eq s t
  leaf_eq own_eq (bool true) (bool b) = b
  leaf_eq own_eq (bool false) (bool true) = false
  leaf_eq own_eq (bool false) (bool false) = true
  leaf_eq own_eq (integer t w b) (integer u v c) = nat_eq t u && (nat_eq w v && nat_eq b c)
  leaf_eq own_eq unit unit = true
  leaf_eq own_eq (type_of t) (type_of u) = nat_eq t u
  leaf_eq own_eq (operand_segment_sizes ms) (operand_segment_sizes ns) = pointwise nat_eq ms ns
  leaf_eq own_eq (given_names ms) (given_names ns) = pointwise (option_eq (pointwise nat_eq)) ms ns
  leaf_eq own_eq (own a) (own b) = own_eq a b
  leaf_eq own_eq _ _ = false

  -- the same of attributes of which neither holds others
  abbrev pub leaves_eq : (own_eq : A → A → Bool) → AttrView A → AttrView A → Bool
  leaves_eq own_eq (leaf x) (leaf y) = leaf_eq own_eq x y
  leaves_eq own_eq _ _ = false

  abbrev mutual
    pub attr_eq : (own_eq : A → A → Bool) → AttrView A → AttrView A → Bool
    attr_eq own_eq (leaf x) (leaf y) = leaf_eq own_eq x y
    attr_eq own_eq (dict es) (dict fs) = entries_eq own_eq es fs
    attr_eq own_eq (vec xs) (vec ys) = items_eq own_eq xs ys
    attr_eq own_eq _ _ = false

    pub items_eq : (own_eq : A → A → Bool) → Items A → Items A → Bool
    items_eq own_eq no_items no_items = true
    items_eq own_eq (item x xs) (item y ys) = attr_eq own_eq x y && items_eq own_eq xs ys
    items_eq own_eq _ _ = false

    pub entries_eq : (own_eq : A → A → Bool) → Entries A → Entries A → Bool
    entries_eq own_eq no_entries no_entries = true
    entries_eq own_eq (entry k x es) (entry l y fs) =
        pointwise nat_eq k l && (attr_eq own_eq x y && entries_eq own_eq es fs)
    entries_eq own_eq _ _ = false
