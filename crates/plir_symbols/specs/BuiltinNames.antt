-- Which names the builtin operations use, and which of their symbols are private.
use Rattle.std.specs.Prelude.{ℕ, Bool, false, cond, List, Option, Some, None, codes}
use Rattle.std.specs.Str.{bytes_eq}
use Rattle.std.specs.List.{filter_map}
use Rattle.plir_data.specs.AttrView.{AttrView, leaf, string}
use Rattle.plir_data.specs.Dictionary.{dict_get}
use Rattle.plir_data.specs.Keys.{symbol_key}
use Rattle.plir_core.specs.Contents.{OpView}
use Rattle.plir_builtin.specs.Symbols.{name_in}

-- the key that a symbol's visibility stands under
abbrev pub visibility_key : List ℕ
visibility_key = codes "sym_visibility"

module _ {A : Type 0} where
  -- the name that an entry uses: an identifier under any key but that of a symbol's own name
  abbrev pub name_under : List ℕ × AttrView A → Option (List ℕ)
  name_under e = cond (bytes_eq e.0 symbol_key) None (name_in (Some e.1))

  abbrev pub names_under : List (List ℕ × AttrView A) → List (List ℕ)
  names_under es = filter_map name_under es

  -- whether an attribute is the text x
  abbrev pub is_text : List ℕ → Option (AttrView A) → Bool
  is_text x (Some (leaf (string y))) = bytes_eq y x
  is_text x _ = false

module _ {K A : Type 0} where
  -- the names that an operation uses: those of its entries, in the order of their keys
  abbrev pub names_held : OpView K A → List (List ℕ)
  names_held o = names_under o.attributes

  -- a symbol is private: the text `private` stands under the key of the visibility
  abbrev pub is_marked_private : OpView K A → Bool
  is_marked_private o = is_text (codes "private") (dict_get o.attributes visibility_key)
