-- Attributes whose handles name types of a table.
use Rattle.std.specs.Prelude.{ℕ, List, [], ◌∷◌, All}
use Rattle.plir_data.specs.Types.{TypeView, IsLive, AllLive}
use Rattle.plir_data.specs.AttrView.{Leaf, integer, type_of, own, AttrView, leaf, dict, vec, Items, no_items, item}
use Rattle.plir_data.specs.AttrView.{Entries, no_entries, entry}

module _ {A : Type 0} where
  -- the type handles in a leaf
  abbrev pub leaf_handles : (own_handles : A → List ℕ) → Leaf A → List ℕ
  leaf_handles own_handles (integer t w b) = t ∷ []
  leaf_handles own_handles (type_of t) = t ∷ []
  leaf_handles own_handles (own a) = own_handles a
  leaf_handles own_handles _ = []

module _ {A T : Type 0} where
  -- all type handles in an attribute name types of the table
  abbrev mutual
    pub IsAttrLive : (own_handles : A → List ℕ) → List (TypeView T) → AttrView A → Type 0
    IsAttrLive own_handles types (leaf x) = AllLive types (leaf_handles own_handles x)
    IsAttrLive own_handles types (dict es) = AreEntriesLive own_handles types es
    IsAttrLive own_handles types (vec xs) = AreItemsLive own_handles types xs

    pub AreItemsLive : (own_handles : A → List ℕ) → List (TypeView T) → Items A → Type 0
    AreItemsLive own_handles types no_items = Unit {0}
    AreItemsLive own_handles types (item x xs) = IsAttrLive own_handles types x × AreItemsLive own_handles types xs

    pub AreEntriesLive : (own_handles : A → List ℕ) → List (TypeView T) → Entries A → Type 0
    AreEntriesLive own_handles types no_entries = Unit {0}
    AreEntriesLive own_handles types (entry k x es) = IsAttrLive own_handles types x × AreEntriesLive own_handles types
        es

  -- all type handles in the attributes of a dictionary name types of the table
  abbrev pub HandlesLive : (own_handles : A → List ℕ) → List (TypeView T) → List (List ℕ × AttrView A) → Type 0
  HandlesLive own_handles types es = All (λ e. IsAttrLive own_handles types e.1) es

-- the attribute is live in each table in which all attributes of a dictionary are
abbrev pub IsLiveWith : {A : Type 0} → (T : Type 0) → List (List ℕ × AttrView A) → AttrView A → Type 0
IsLiveWith {A} T es a = (own_handles : A → List ℕ) (types : List (TypeView T)) → HandlesLive own_handles types es →
    IsAttrLive own_handles types a

-- the handle is live in each table in which the attribute is
abbrev pub IsHeldLive : {A : Type 0} → (T : Type 0) → (own_handles : A → List ℕ) → AttrView A → ℕ → Type 0
IsHeldLive T own_handles a handle = (types : List (TypeView T)) → IsAttrLive own_handles types a → IsLive types handle
