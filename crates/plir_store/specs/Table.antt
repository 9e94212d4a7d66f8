-- What a contract sees of `Slots`.
use Rattle.std.specs.Prelude.{◌≡◌, ℕ, ◌+◌, ◌-◌, ◌<◌, ◌≤◌, ◌^◌, Bool, true, false, cond, ◌==◌, ◌&&◌, List, [], ◌∷◌, ◌++◌}
use Rattle.std.specs.Prelude.{length, Option, Some, None, is_some, count_by, slice_index_or, slice_set}
use Rattle.plir_store.specs.Members.{Has, Distinct}

-- A slot: how many values it has held, and the one that it holds.
pub record Cell (T : Type 0) : Type 0 where
  pub version : ℕ
  pub content : Option T

-- The slots in order, and the numbers of those that are free for use, the one freed last first.
pub record Table (T : Type 0) : Type 0 where
  pub slots : List (Cell T)
  pub free : List ℕ

-- the version under which a slot is filled for the last time
abbrev pub MAX_VERSION : ℕ
MAX_VERSION = 2 ^ 32 - 1

abbrev pub is_nil : List ℕ → Bool
is_nil [] = true
is_nil (x ∷ xs) = false

-- the first of the free slots, and else the slot n
abbrev pub slot_after : ℕ → List ℕ → ℕ
slot_after n [] = n
slot_after n (f ∷ fs) = f

module _ {T : Type 0} where
  -- what is read past the last slot: no value, and none before
  abbrev pub no_cell : Cell T
  no_cell = record { version = 0; content = None }

  -- the slot with this number
  abbrev pub cell_at : Table T → ℕ → Cell T
  cell_at t i = slice_index_or t.slots i no_cell

  -- the value in the slot i, if there is one
  abbrev pub content_at : Table T → ℕ → Option T
  content_at t i = (cell_at t i).content

  -- how many values the slot i has held
  abbrev pub version_at : Table T → ℕ → ℕ
  version_at t i = (cell_at t i).version

  -- the slot i holds a value, which it got under the version v
  abbrev pub is_live_at : Table T → ℕ → ℕ → Bool
  is_live_at t i v = is_some (content_at t i) && (version_at t i == v)

  -- how many slots hold a value
  abbrev pub num_full : Table T → ℕ
  num_full t = count_by (λ c. is_some c.content) t.slots

  -- the slot that the next value gets: the one freed last, or a new one
  abbrev pub next_slot : Table T → ℕ
  next_slot t = slot_after (length t.slots) t.free

  -- one more value, where these slots are free: in the first of them under its next version, or in a
  -- new slot under version 1
  abbrev pub with_new_in : Table T → T → List ℕ → Table T
  with_new_in t v [] = record { slots = t.slots ++ record { version = 1; content = Some v } ∷ []; free = [] }
  with_new_in t v (f ∷ fs) = record {
    slots = slice_set t.slots f (record { version = version_at t f + 1; content = Some v });
    free = fs;
  }

  -- the table with one more value, in the slot that is next
  abbrev pub with_new : Table T → T → Table T
  with_new t v = with_new_in t v t.free

  -- the table with the slot i freed; under the last version it is never used again
  abbrev pub without_slot : Table T → ℕ → Table T
  without_slot t i = record {
    slots = slice_set t.slots i (record { version = version_at t i; content = None });
    free = cond (version_at t i == MAX_VERSION) t.free (i ∷ t.free);
  }

  -- the table with the value v in the slot i, under the version that the slot has
  abbrev pub with_content : Table T → ℕ → T → Table T
  with_content t i v = record t {
    slots = slice_set t.slots i (record { version = version_at t i; content = Some v });
  }

  -- a free slot: one of the table, with no value, and with a version left to give out
  pub record IsFreeSlot (t : Table T) (i : ℕ) : Type 0 where
    pub within : i < length t.slots
    pub vacant : content_at t i ≡ None
    pub usable : version_at t i < MAX_VERSION

  -- What holds of every table that `Slots` keeps: no free slot stands twice, each is free indeed, each
  -- slot has held a value under a version of 32 bits, and the numbers of slots and of values fit 32 bits.
  pub record IsTable (t : Table T) : Type 0 where
    pub apart : Distinct t.free
    pub free_slots : (i : ℕ) → Has t.free i → IsFreeSlot t i
    pub used : (i : ℕ) → i < length t.slots → 0 < version_at t i
    pub bounded : (i : ℕ) → i < length t.slots → version_at t i ≤ MAX_VERSION
    pub num_slots : length t.slots < 2 ^ 32
    pub num_values : num_full t < 2 ^ 32
