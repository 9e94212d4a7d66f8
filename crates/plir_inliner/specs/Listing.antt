-- What one step of a walk that lists operations leaves.
use Rattle.std.specs.Prelude.{◌≡◌, Bool, cond, List, [], ◌∷◌, ◌++◌}
use Rattle.std.specs.declared.ops.ControlFlow.{ControlFlow}
use Rattle.std.specs.declared.ops.ControlFlow.TheVariants.{Continue, Break}
use Rattle.plir_walk.specs.declared.interruptible.WalkContinue.{WalkContinue}
use Rattle.plir_walk.specs.declared.interruptible.WalkContinue.TheVariants.{Advance, Skip}
use Rattle.plir_core.specs.declared.ptr.Ptr.{Ptr}
use Rattle.plir_core.specs.declared.ptr.Operation.{Operation as OperationKind}

module _ (keeps : Ptr OperationKind → Bool) where
  -- the operation, if the test keeps it
  abbrev pub kept_at : Ptr OperationKind → List (Ptr OperationKind)
  kept_at p = cond (keeps p) (p ∷ []) []

  -- What a call at an operation does to a list of operations: this one is added, if the test keeps it, and the walk
  -- goes on; or it is broken off.
  abbrev pub IsOpPut : {B : Type 0} → List (Ptr OperationKind) → Ptr OperationKind → ControlFlow B WalkContinue →
      List (Ptr OperationKind) → Type 0
  IsOpPut ps p (Continue Advance) ps' = ps' ≡ ps ++ kept_at p
  IsOpPut ps p (Continue Skip) ps' = ⊥
  IsOpPut ps p (Break b) ps' = Unit {0}
