-- Types and attributes as they are written.
use Rattle.std.specs.Prelude.{ℕ, suc, max, List, [], ◌∷◌, Bool, Option}
use Rattle.plir_data.specs.declared.types.Signedness.{Signedness}

-- a type: each type that it is made of is written out
mutual
  pub data TypeTerm : Type 0 where
    integer_type : Signedness → (width : ℕ) → TypeTerm
    function_type : (arguments results : TypeTerms) → TypeTerm
    unit_type : TypeTerm

  pub data TypeTerms : Type 0 where
    no_types : TypeTerms
    type_before : TypeTerm → TypeTerms → TypeTerms

abbrev pub types_of : List TypeTerm → TypeTerms
types_of [] = no_types
types_of (t ∷ ts) = type_before t (types_of ts)

-- An attribute. The entries of a dictionary stand as they are written, in any order and with any key more than once.
mutual
  pub data AttrTerm : Type 0 where
    identifier : List ℕ → AttrTerm
    string : List ℕ → AttrTerm
    bool : Bool → AttrTerm
    integer : Signedness → (width bits : ℕ) → AttrTerm
    unit : AttrTerm
    type : TypeTerm → AttrTerm
    operand_segment_sizes : List ℕ → AttrTerm
    given_names : List (Option (List ℕ)) → AttrTerm
    dict : EntryTerms → AttrTerm
    vec : AttrTerms → AttrTerm

  pub data AttrTerms : Type 0 where
    no_attrs : AttrTerms
    attr_before : AttrTerm → AttrTerms → AttrTerms

  pub data EntryTerms : Type 0 where
    no_entries : EntryTerms
    entry_before : (key : List ℕ) → AttrTerm → EntryTerms → EntryTerms

abbrev pub attrs_of : List AttrTerm → AttrTerms
attrs_of [] = no_attrs
attrs_of (x ∷ xs) = attr_before x (attrs_of xs)

abbrev pub entries_of : List (List ℕ × AttrTerm) → EntryTerms
entries_of [] = no_entries
entries_of (e ∷ es) = entry_before e.0 e.1 (entries_of es)

-- How many levels are open at the deepest place, the type itself counted.
abbrev mutual
  pub type_levels : TypeTerm → ℕ
  type_levels (integer_type s w) = 1
  type_levels (function_type as_ rs) = suc (max (types_levels as_) (types_levels rs))
  type_levels unit_type = 1

  pub types_levels : TypeTerms → ℕ
  types_levels no_types = 0
  types_levels (type_before t ts) = max (type_levels t) (types_levels ts)

-- The same of an attribute. The type of an integer is a level in it.
abbrev mutual
  pub levels : AttrTerm → ℕ
  levels (identifier w) = 1
  levels (string s) = 1
  levels (bool b) = 1
  levels (integer s w b) = 2
  levels unit = 1
  levels (type t) = suc (type_levels t)
  levels (operand_segment_sizes ns) = 1
  levels (given_names ns) = 1
  levels (dict es) = suc (entries_levels es)
  levels (vec xs) = suc (attrs_levels xs)

  pub attrs_levels : AttrTerms → ℕ
  attrs_levels no_attrs = 0
  attrs_levels (attr_before x xs) = max (levels x) (attrs_levels xs)

  pub entries_levels : EntryTerms → ℕ
  entries_levels no_entries = 0
  entries_levels (entry_before k x es) = max (levels x) (entries_levels es)
