-- The place of a key among entries whose keys ascend.
use Rattle.std.specs.Prelude.{ℕ, ◌≡◌, ◌<◌, ◌≤◌, List, length, slice_index_or, Result, Ok, Err}
use Rattle.std.specs.Ordering.{nat_cmp}
use Rattle.std.specs.declared.cmp.Ordering.TheVariants.{Less, Equal, Greater}
use Rattle.std.specs.Cmp.Lexicographic.{slice_cmp}

module _ {E : Type 0} (key : E → List ℕ) (es : List E) where
  -- each key is less than those behind it
  abbrev pub KeysAscend : Type 0
  KeysAscend = (i j : ℕ) (d : E) → i < j → j < length es →
      slice_cmp nat_cmp (key (slice_index_or es i d)) (key (slice_index_or es j d)) ≡ Less

  -- the keys before a place are less than this one
  abbrev pub AreBefore : List ℕ → (at : ℕ) → Type 0
  AreBefore k at = (i : ℕ) (d : E) → i < at → slice_cmp nat_cmp k (key (slice_index_or es i d)) ≡ Greater

  -- the keys from a place on are greater
  abbrev pub AreBehind : List ℕ → (at : ℕ) → Type 0
  AreBehind k at = (i : ℕ) (d : E) → at ≤ i → i < length es →
      slice_cmp nat_cmp k (key (slice_index_or es i d)) ≡ Less

  -- where the key is, or else where it would stand
  abbrev pub IsPlace : List ℕ → Result ℕ ℕ → Type 0
  IsPlace k (Ok at) = (at < length es) × AreBefore k at ×
      ((d : E) → slice_cmp nat_cmp k (key (slice_index_or es at d)) ≡ Equal)
  IsPlace k (Err at) = (at ≤ length es) × AreBefore k at × AreBehind k at
