-- Attributes that texts can stand for, and how they are written.
use Rattle.std.specs.Prelude.{◌≡◌, ℕ, ◌^◌, ◌<◌, ◌≤◌, map, List, [], ◌∷◌, All, true, Option, Some, None}
use Rattle.std.specs.Str.{IsUtf8}
use Rattle.plir_data.specs.AttrView.{Leaf, identifier, string, bool, integer, unit, type_of, operand_segment_sizes}
use Rattle.plir_data.specs.AttrView.{given_names, own, AttrView, leaf, dict, vec, Items, no_items, item, Entries}
use Rattle.plir_data.specs.AttrView.{no_entries, entry}
use Rattle.plir_data.specs.{AttrVerify.is_of_width, Dictionary.IsDictionary, Identifier.is_identifier}
use Rattle.plir_data.specs.Types as types
use Rattle.plir_data.specs.TypeTree.{TypeTree, integer_tree, function_tree, unit_tree, own_tree, Trees, no_trees, tree}
use Rattle.plir_data.specs.TypeTree.{trees_of, tree_of}
use Rattle.plir_data.specs.declared.types.Signedness.TheVariants.{Signless}
use Rattle.plir_data.specs.{Types.TypeView, Types.IsLive, Types.type_at, declared.types.Signedness.Signedness}
use Rattle.plir_attr_text.specs.Terms as terms
use Rattle.plir_attr_text.specs.Terms.{TypeTerm, integer_type, function_type, unit_type, TypeTerms, no_types}
use Rattle.plir_attr_text.specs.Terms.{type_before, types_levels, AttrTerm, AttrTerms, no_attrs, attr_before}
use Rattle.plir_attr_text.specs.Terms.{EntryTerms, entry_before}

module _ {T : Type 0} where
  -- a type that is made of builtin types alone, with widths below two to the 32
  abbrev mutual
    pub IsBuiltin : TypeTree T → Type 0
    IsBuiltin (integer_tree s width) = width < 2 ^ 32
    IsBuiltin (function_tree arguments results) = AreBuiltin arguments × AreBuiltin results
    IsBuiltin unit_tree = Unit {0}
    IsBuiltin (own_tree t) = ⊥

    pub AreBuiltin : Trees T → Type 0
    AreBuiltin no_trees = Unit {0}
    AreBuiltin (tree t ts) = IsBuiltin t × AreBuiltin ts

  -- A builtin type as it is written. Of the user's own, which has no term, anything.
  abbrev mutual
    pub type_term : TypeTree T → TypeTerm
    type_term (integer_tree s width) = integer_type s width
    type_term (function_tree arguments results) = function_type (type_terms arguments) (type_terms results)
    type_term unit_tree = unit_type
    type_term (own_tree t) = unit_type

    pub type_terms : Trees T → TypeTerms
    type_terms no_trees = no_types
    type_terms (tree t ts) = type_before (type_term t) (type_terms ts)

  -- how many levels there are in the types that handles of a table name, written out
  abbrev pub handles_levels : List (TypeView T) → List ℕ → ℕ
  handles_levels table hs = types_levels (type_terms (trees_of (map (tree_of table) hs)))

  -- how the integers of a type are signed
  abbrev pub signedness_of : Option (TypeView T) → Signedness
  signedness_of (Some (types.integer s width)) = s
  signedness_of _ = Signless

-- a name that is set is an identifier
abbrev pub IsNameOrMark : Option (List ℕ) → Type 0
IsNameOrMark (Some w) = is_identifier w ≡ true
IsNameOrMark None = Unit {0}

module _ {A : Type 0} where
  -- the entries of a dictionary, as pairs
  abbrev pub pairs_of : Entries A → List (List ℕ × AttrView A)
  pairs_of no_entries = []
  pairs_of (entry k x es) = (k, x) ∷ pairs_of es

module _ {A T : Type 0} (table : List (TypeView T)) where
  -- Names are identifiers, a text is UTF-8, an integer has a width from 1 to 64, which is that of its type, and bits
  -- below two to it, a type is one of the table and builtin, sizes are below two to the 32, and nothing is of the
  -- user's own.
  abbrev pub IsLeafWritable : Leaf A → Type 0
  IsLeafWritable (identifier w) = is_identifier w ≡ true
  IsLeafWritable (string s) = IsUtf8 s
  IsLeafWritable (bool b) = Unit {0}
  IsLeafWritable (integer handle width bits) =
      (1 ≤ width) × (width ≤ 64) × (bits < 2 ^ width) × (is_of_width width (type_at table handle) ≡ true)
  IsLeafWritable unit = Unit {0}
  IsLeafWritable (type_of handle) = IsLive table handle × IsBuiltin (tree_of table handle)
  IsLeafWritable (operand_segment_sizes ns) = All (λ n. n < 2 ^ 32) ns
  IsLeafWritable (given_names ns) = All IsNameOrMark ns
  IsLeafWritable (own a) = ⊥

  -- an attribute that a text can stand for: so is each leaf in it, and the keys of each dictionary in it are
  -- identifiers and ascend
  abbrev mutual
    pub IsWritable : AttrView A → Type 0
    IsWritable (leaf x) = IsLeafWritable x
    IsWritable (dict es) = IsDictionary (pairs_of es) × AreEntriesWritable es
    IsWritable (vec xs) = AreItemsWritable xs

    pub AreItemsWritable : Items A → Type 0
    AreItemsWritable no_items = Unit {0}
    AreItemsWritable (item x xs) = IsWritable x × AreItemsWritable xs

    pub AreEntriesWritable : Entries A → Type 0
    AreEntriesWritable no_entries = Unit {0}
    AreEntriesWritable (entry k x es) = IsWritable x × AreEntriesWritable es

  -- Such an attribute as it is written, its types written out. Of the user's own, which has no term, anything.
  abbrev pub leaf_term : Leaf A → AttrTerm
  leaf_term (identifier w) = terms.identifier w
  leaf_term (string s) = terms.string s
  leaf_term (bool b) = terms.bool b
  leaf_term (integer handle width bits) = terms.integer (signedness_of (type_at table handle)) width bits
  leaf_term unit = terms.unit
  leaf_term (type_of handle) = terms.type (type_term (tree_of table handle))
  leaf_term (operand_segment_sizes ns) = terms.operand_segment_sizes ns
  leaf_term (given_names ns) = terms.given_names ns
  leaf_term (own a) = terms.unit

  abbrev mutual
    pub attr_term : AttrView A → AttrTerm
    attr_term (leaf x) = leaf_term x
    attr_term (dict es) = terms.dict (entry_terms es)
    attr_term (vec xs) = terms.vec (attr_terms xs)

    pub attr_terms : Items A → AttrTerms
    attr_terms no_items = no_attrs
    attr_terms (item x xs) = attr_before (attr_term x) (attr_terms xs)

    pub entry_terms : Entries A → EntryTerms
    entry_terms no_entries = terms.no_entries
    entry_terms (entry k x es) = entry_before k (attr_term x) (entry_terms es)
