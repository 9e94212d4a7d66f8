-- What a pass leaves of the tables that are cached.
use Rattle.std.specs.Prelude.{◌≡◌, Bool, Some, None, IsSome, ◌⊎◌}
use Rattle.std.specs.FinMap as map
use Rattle.plir_core.specs.declared.ptr.Ptr.{Ptr}
use Rattle.plir_core.specs.declared.ptr.Operation.{Operation as OperationKind}
use Rattle.plir_core.specs.ContextView.{ContextView}
use Rattle.plir_builtin.specs.Table.{Table, Tables}
use Rattle.plir_builtin.specs.Agree.{IsCachedFor}
use Rattle.plir_builtin.specs.Nearest.{IsNearest}

-- From c to c' a table is cached for p, which is p's own, and all else is cached as it was.
abbrev pub IsOwnCached : Tables → Ptr OperationKind → Tables → Type 0
IsOwnCached c p c' = (t : Table) × (c' ≡ map.insert c p t) × (t.op ≡ p)

-- the same, or nothing has changed
abbrev pub IsOwnCachedOrSame : Tables → Ptr OperationKind → Tables → Type 0
IsOwnCachedOrSame c p c' = (c' ≡ c) ⊎ IsOwnCached c p c'

module _ {K A T : Type 0} (own_table : K → Bool) (s : ContextView K A T) where
  -- the nearest table of an operation, if there is one, is cached
  abbrev pub IsNearestCached : Tables → Ptr OperationKind → Type 0
  IsNearestCached c n = (t : Ptr OperationKind) → IsNearest own_table s n (Some t) → IsSome (map.get c t)

  -- From c to c' each entry is as it was; but for an operation that was asked for, and for which no table was cached,
  -- one is that is its own and agrees.
  abbrev pub AreBrought : (own_symbol : K → Bool) → (asked : Ptr OperationKind → Type 0) → Tables → Tables → Type 0
  AreBrought own_symbol asked c c' = (p : Ptr OperationKind) → (map.get c' p ≡ map.get c p) ⊎
      ((map.get c p ≡ None) × asked p × IsCachedFor own_symbol own_table s c' p)
