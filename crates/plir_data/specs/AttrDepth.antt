-- How deep attributes stand in one another.
use Rattle.std.specs.Prelude.{ℕ, suc, max, ◌+◌, List, [], ◌∷◌}
use Rattle.plir_data.specs.AttrView.{AttrView, leaf, dict, vec, Items, no_items, item, Entries, no_entries, entry}
use Rattle.plir_data.specs.AttrView.{items_of, entries_of}

module _ {A : Type 0} where
  abbrev mutual
    -- how many levels are open at the deepest place, the attribute itself counted
    pub depth : AttrView A → ℕ
    depth (leaf x) = 1
    depth (dict es) = suc (entries_depth_in es)
    depth (vec xs) = suc (items_depth_in xs)

    pub items_depth_in : Items A → ℕ
    items_depth_in no_items = 0
    items_depth_in (item x xs) = max (depth x) (items_depth_in xs)

    pub entries_depth_in : Entries A → ℕ
    entries_depth_in no_entries = 0
    entries_depth_in (entry k x es) = max (depth x) (entries_depth_in es)

  abbrev pub items_depth : List (AttrView A) → ℕ
  items_depth [] = 0
  items_depth (x ∷ xs) = max (depth x) (items_depth xs)

  abbrev pub entries_depth : List (List ℕ × AttrView A) → ℕ
  entries_depth [] = 0
  entries_depth (e ∷ es) = max (depth e.1) (entries_depth es)

-- A number for each attribute, larger than those of the attributes in it.
module _ {A : Type 0} where
  abbrev mutual
    pub bulk : AttrView A → ℕ
    bulk (leaf x) = 1
    bulk (dict es) = entries_bulk_in es + 3
    bulk (vec xs) = items_bulk_in xs + 3

    pub items_bulk_in : Items A → ℕ
    items_bulk_in no_items = 0
    items_bulk_in (item x xs) = max (bulk x) (items_bulk_in xs)

    pub entries_bulk_in : Entries A → ℕ
    entries_bulk_in no_entries = 0
    entries_bulk_in (entry k x es) = max (bulk x) (entries_bulk_in es)

  abbrev pub items_bulk : List (AttrView A) → ℕ
  items_bulk xs = items_bulk_in (items_of xs)

  abbrev pub entries_bulk : List (List ℕ × AttrView A) → ℕ
  entries_bulk es = entries_bulk_in (entries_of es)
