-- Attributes as contracts see them.
use Rattle.std.specs.Prelude.{ℕ, Bool, true, false, List, [], ◌∷◌, Option}

-- An attribute that holds no other: a name, a text by its bytes, a truth value, an integer by its type's handle and the
-- width and bits of its value, nothing, a type by its handle, sizes of operand segments, names that may be unset, or
-- one of the user's own, A.
pub data Leaf (A : Type 0) : Type 0 where
  identifier : List ℕ → Leaf A
  string : List ℕ → Leaf A
  bool : Bool → Leaf A
  integer : (type width bits : ℕ) → Leaf A
  unit : Leaf A
  type_of : ℕ → Leaf A
  operand_segment_sizes : List ℕ → Leaf A
  given_names : List (Option (List ℕ)) → Leaf A
  own : A → Leaf A

-- An attribute: a leaf, a dictionary by its entries, or a list.
mutual
  pub data AttrView (A : Type 0) : Type 0 where
    leaf : Leaf A → AttrView A
    dict : Entries A → AttrView A
    vec : Items A → AttrView A

  pub data Items (A : Type 0) : Type 0 where
    no_items : Items A
    item : AttrView A → Items A → Items A

  pub data Entries (A : Type 0) : Type 0 where
    no_entries : Entries A
    entry : (key : List ℕ) → AttrView A → Entries A → Entries A

module _ {A : Type 0} where
  abbrev pub items_of : List (AttrView A) → Items A
  items_of [] = no_items
  items_of (x ∷ xs) = item x (items_of xs)

  abbrev pub entries_of : List (List ℕ × AttrView A) → Entries A
  entries_of [] = no_entries
  entries_of (e ∷ es) = entry e.0 e.1 (entries_of es)

  -- an attribute that holds no others
  abbrev pub is_leaf : AttrView A → Bool
  is_leaf (leaf x) = true
  is_leaf _ = false
