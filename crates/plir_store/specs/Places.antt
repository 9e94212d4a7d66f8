-- How `Slots` lays out its slots. No public clause cites this module.
use Rattle.std.specs.Prelude.{◌≡◌, ℕ, List, [], ◌∷◌, length, Option, Some, None, slice_index_or}
use Rattle.plir_store.specs.Table.{Table, Cell, num_full, IsTable}
use Rattle.plir_store.specs.Links.{walk}
use Rattle.plir_store.specs.declared.slots.Place.{Place}
use Rattle.plir_store.specs.declared.slots.Place.TheVariants.{Vacant, Full}

-- from a by way of xs to the end
abbrev pub Leads : (ℕ → Option ℕ) → Option ℕ → List ℕ → Type 0
Leads next a [] = a ≡ None
Leads next a (x ∷ xs) = (a ≡ Some x) × Leads next (next x) xs

module _ {T : Type 0} where
  -- the value in a place, if there is one
  abbrev pub content_of : Place T → Option T
  content_of (Vacant next) = None
  content_of (Full v) = Some v

  -- the free slot that a vacant place names
  abbrev pub link_of : Place T → Option ℕ
  link_of (Vacant next) = next
  link_of (Full v) = None

  abbrev pub place_at : List (Place T) → ℕ → Place T
  place_at ps i = slice_index_or ps i (Vacant None)

  -- each version with what its place holds
  abbrev pub cells_of : List ℕ → List (Place T) → List (Cell T)
  cells_of [] ps = []
  cells_of (v ∷ vs) [] = []
  cells_of (v ∷ vs) (p ∷ ps) = record { version = v; content = content_of p } ∷ cells_of vs ps

  abbrev pub next_free : List (Place T) → ℕ → Option ℕ
  next_free ps i = link_of (place_at ps i)

  -- the free slots, the first of them given
  abbrev pub free_of : List (Place T) → Option ℕ → List ℕ
  free_of ps head = walk (length ps) (next_free ps) head

  abbrev pub table_of : List ℕ → List (Place T) → Option ℕ → Table T
  table_of vs ps head = record { slots = cells_of vs ps; free = free_of ps head }

  -- there are as many versions as places, the links from the first free slot on come to an end, and
  -- `live` counts the values
  pub record IsSound (vs : List ℕ) (ps : List (Place T)) (head : Option ℕ) (live : ℕ) : Type 0 where
    pub as_many : length vs ≡ length ps
    pub leads : Leads (next_free ps) head (free_of ps head)
    pub whole : IsTable (table_of vs ps head)
    pub counted : live ≡ num_full (table_of vs ps head)
