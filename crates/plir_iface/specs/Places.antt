-- Indices of a list that a rule is about.
use Rattle.std.specs.Prelude.{◌≡◌, ◌↔◌, ◌<◌, ◌≤◌, ◌+◌, ◌-◌, ◌^◌, ℕ, ℤ, pos, negsuc, unsigned_abs}
use Rattle.std.specs.Int.{w32, cast_signed}
use Rattle.plir_iface.specs.IndexRange.{IsTooShort, IsUpTo}
use Rattle.plir_iface.specs.declared.places.Places.{Places}
use Rattle.plir_iface.specs.declared.places.Places.TheVariants.{At, Within}
use Rattle.plir_iface.specs.declared.places.Span.{Span}

-- the last index of a range, from the number that stands for it: its 32 bits read as a signed number
abbrev pub signed : ℕ → ℤ
signed n = cast_signed w32 n

-- the last index of a range is counted from the list's end, or is not before the first
abbrev pub IsOrdered : (m : ℕ) (n : ℤ) → Type 0
IsOrdered m (pos k) = m ≤ k
IsOrdered m (negsuc k) = Unit {0}

-- a list of `len` entities is too short for these indices: so many are needed
abbrev pub NeedsMore : Places → (len needed : ℕ) → Type 0
NeedsMore (At n) len needed = (len ≤ n) × (needed ≡ n + 1)
NeedsMore (Within m n) len needed = IsTooShort n len × (needed ≡ unsigned_abs n + 1)

-- a list of `len` entities is long enough for these indices
abbrev pub IsLongEnough : Places → (len : ℕ) → Type 0
IsLongEnough places len = (needed : ℕ) → NeedsMore places len needed → ⊥

-- i is one of these indices of a list of `len` entities
abbrev pub IsAmong : Places → (len i : ℕ) → Type 0
IsAmong (At n) len i = i ≡ n
IsAmong (Within m n) len i = (m ≤ i) × IsUpTo n len i

-- the number that is needed for these indices is one that a machine can count to
abbrev pub IsCountable : Places → Type 0
IsCountable (At n) = n < 2 ^ 64 - 1
IsCountable (Within m n) = Unit {0}

-- a list of `len` entities is long enough for these indices, and they are those from start on and before end
abbrev pub IsSpan : Places → (len : ℕ) → Span → Type 0
IsSpan places len span =
    IsLongEnough places len × (span.end ≤ len) × ((i : ℕ) → ((span.start ≤ i) × (i < span.end)) ↔ IsAmong places len i)
