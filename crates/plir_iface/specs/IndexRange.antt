-- Ranges of indices in a list, from m to n, where a negative n counts from the list's end.
use Rattle.std.specs.Prelude.{◌≡◌, ◌↔◌, ℕ, suc, ◌+◌, ◌≤◌, ℤ, pos, negsuc, unsigned_abs}
use Rattle.plir_iface.specs.declared.index_range.IndexRange.{IndexRange}
use Rattle.plir_iface.specs.declared.index_range.IndexRange.TheVariants.{Range, Empty, TooFewEntities}

-- a list of `len` entities has no index n, where n isn't counted from its end
abbrev pub IsTooShort : (n : ℤ) (len : ℕ) → Type 0
IsTooShort (pos k) len = len ≤ k
IsTooShort (negsuc k) len = ⊥

-- the index i is not past n, which counts from the end of a list of `len` entities if it is negative
abbrev pub IsUpTo : (n : ℤ) (len i : ℕ) → Type 0
IsUpTo (pos k) len i = i ≤ k
IsUpTo (negsuc k) len i = i + suc k ≤ len

-- The range of the indices from m to n in a list of `len` entities.
abbrev pub IsIndexRange : (m : ℕ) (n : ℤ) (len : ℕ) → IndexRange → Type 0
IsIndexRange m n len (TooFewEntities needed) = IsTooShort n len × (needed ≡ unsigned_abs n + 1)
IsIndexRange m n len Empty = (IsTooShort n len → ⊥) × ((i : ℕ) → m ≤ i → IsUpTo n len i → ⊥)
IsIndexRange m n len (Range start end) = (IsTooShort n len → ⊥) × (start ≤ end) ×
    ((i : ℕ) → ((start ≤ i) × (i ≤ end)) ↔ ((m ≤ i) × IsUpTo n len i))
