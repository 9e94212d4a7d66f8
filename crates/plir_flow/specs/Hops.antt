-- Steps between regions in a row, with the index of the one before from the same region.
use Rattle.std.specs.Prelude.{◌≡◌, ◌<◌, ◌+◌, ◌⊎◌, ◌↔◌, ◌≤◌, ℕ, List, take, length, Option, Some, None, slice_get, Bool}
use Rattle.std.specs.Prelude.{true, ◌&&◌, nat_eq}
use Rattle.plir_core.specs.declared.ptr.Ptr.{Ptr}
use Rattle.plir_core.specs.declared.ptr.Region.{Region as RegionKind}
use Rattle.plir_store.specs.Members.{Has, Distinct}
use Rattle.plir_flow.specs.declared.hops.Hop.{Hop}

module _ (hops : List Hop) where
  -- there is a hop from a to b
  abbrev pub IsHop : (a b : Ptr RegionKind) → Type 0
  IsHop a b = (i : ℕ) × ((h : Hop) × ((slice_get hops i ≡ Some h) × (h.from ≡ a) × (h.to ≡ b)))

  -- no hop from the region stands from one index up to another
  abbrev pub IsNoneFrom : (low high : ℕ) → Ptr RegionKind → Type 0
  IsNoneFrom low high r = (i : ℕ) (h : Hop) → low ≤ i → i < high → slice_get hops i ≡ Some h → h.from ≡ r → ⊥

  -- the index is that of the last hop from the region among the first n, if there is one
  abbrev pub IsLatest : (n : ℕ) → Ptr RegionKind → Option ℕ → Type 0
  IsLatest n r None = IsNoneFrom 0 n r
  IsLatest n r (Some k) = (k < n) × ((h : Hop) × ((slice_get hops k ≡ Some h) × (h.from ≡ r))) × IsNoneFrom (k + 1) n r

  -- each hop names the index of the one before from its region
  abbrev pub AreLinked : Type 0
  AreLinked = (i : ℕ) (h : Hop) → slice_get hops i ≡ Some h → IsLatest i h.from h.earlier

  -- the last hop from each region stands where its head names it
  abbrev pub AreHeads : (head : Ptr RegionKind → Option ℕ) → Type 0
  AreHeads head = (r : Ptr RegionKind) → IsLatest (length hops) r (head r)

-- whether two pointers to regions are one
abbrev pub same_region : (p q : Ptr RegionKind) → Bool
same_region p q = nat_eq p.slot q.slot && (nat_eq p.version q.version && true)

-- From xs to ys there came, behind, those that P holds for and no others; and no element stands twice if none did.
pub record IsReachedMore {N : Type 0} (P : N → Type 0) (xs ys : List N) : Type 0 where
  pub begins : (m : ℕ) → m ≤ length xs → take m ys ≡ take m xs
  pub longer : length xs ≤ length ys
  pub all : (x : N) → Has ys x ↔ (Has xs x ⊎ P x)
  pub once : Distinct xs → Distinct ys
