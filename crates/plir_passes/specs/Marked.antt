-- Which operations are marked, and which are put behind them.
use Rattle.std.specs.Prelude.{◌≡◌, Bool, true, false, cond, List, [], ◌∷◌, ◌++◌}
use Rattle.std.specs.List.{list_any}
use Rattle.std.specs.declared.ops.ControlFlow.{ControlFlow}
use Rattle.std.specs.declared.ops.ControlFlow.TheVariants.{Continue, Break}
use Rattle.plir_walk.specs.declared.interruptible.WalkContinue.{WalkContinue}
use Rattle.plir_walk.specs.declared.interruptible.WalkContinue.TheVariants.{Advance, Skip}
use Rattle.plir_store.specs.Members.{Distinct, Has}
use Rattle.plir_core.specs.declared.ptr.Ptr.{Ptr}
use Rattle.plir_core.specs.declared.ptr.Operation.{Operation as OperationKind}
use Rattle.plir_core.specs.SameValue.{same_ptr}
use Rattle.plir_passes.specs.Worklists.{ptr_eq}
use Rattle.plir_passes.specs.declared.marks.Marks.{Marks}

-- whether an operation is one of some
abbrev pub is_among : List (Ptr OperationKind) → Ptr OperationKind → Bool
is_among [] p = false
is_among (q ∷ qs) p = cond (same_ptr q p) true (is_among qs p)

-- those that are marked
abbrev pub ops_of : Marks → List (Ptr OperationKind)
ops_of m = m.ops.items

-- The list and the set tell of the same operations, and each stands in the list once.
pub record IsWhole (m : Marks) : Type 0 where
  pub marked : (p : Ptr OperationKind) → list_any (ptr_eq p) m.set.keys ≡ is_among (ops_of m) p
  pub once : Distinct (ops_of m)

-- Behind those that were marked, those were put that P holds of and that were not among them.
pub record IsGrown (P : Ptr OperationKind → Type 0) (m m' : Marks) : Type 0 where
  pub more : List (Ptr OperationKind)
  pub behind : ops_of m' ≡ ops_of m ++ more
  pub only : (p : Ptr OperationKind) → Has more p → P p
  pub all : IsWhole m → (p : Ptr OperationKind) → P p → Has (ops_of m') p
  pub whole : IsWhole m → IsWhole m'

-- What a call at an operation does to what is marked: it is marked, and the walk goes on; or the walk is broken off.
abbrev pub IsMarkedAt : {B : Type 0} → Marks → Ptr OperationKind → ControlFlow B WalkContinue → Marks → Type 0
IsMarkedAt m p (Continue Advance) m' = IsGrown (λ q. q ≡ p) m m'
IsMarkedAt m p (Continue Skip) m' = ⊥
IsMarkedAt m p (Break b) m' = Unit {0}
