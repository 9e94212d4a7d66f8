-- A range of places is a span: from its first place on, and before the one behind its last.
use Rattle.std.proofs.Common.{ℕ, ◌+◌, ◌<◌, ◌≤◌, ℤ, pos, negsuc, arith}
use Rattle.plir_iface.specs.IndexRange.{IsTooShort, IsUpTo, IsIndexRange}
use Rattle.plir_iface.specs.Places.{IsSpan}
use Rattle.plir_iface.specs.declared.index_range.IndexRange.TheVariants.{Range}
use Rattle.plir_iface.specs.declared.places.Places.TheVariants.{Within}

up-to-below : (n : ℤ) (len i : ℕ) → (IsTooShort n len → ⊥) → IsUpTo n len i → i < len
up-to-below (pos k) len i enough up = grind arith
up-to-below (negsuc k) len i enough up = omega arith

module _ (m : ℕ) (n : ℤ) (len start end : ℕ) (r : IsIndexRange m n len (Range start end)) where
  pub end-below : end < len
  end-below =
      let within : start ≤ end = r.1 in
      let up : (m ≤ end) × IsUpTo n len end = (r.2 end).0 (within, omega arith) in
      up-to-below n len end r.0 up.1

  pub span-of-range : IsSpan (Within m n) len (record { start = start; end = end + 1 })
  span-of-range = (
    λ needed h. r.0 h.0,
    let below : end < len = end-below in omega arith,
    λ i. (
      λ p. (r.2 i).0 (p.0, let h : i < end + 1 = p.1 in omega arith),
      λ q. let w : (start ≤ i) × (i ≤ end) = (r.2 i).1 q in (w.0, let h : i ≤ end = w.1 in omega arith),
    ),
  )
