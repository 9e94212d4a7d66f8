-- What one step of the search for call sites leaves.
use Rattle.std.specs.Prelude.{◌≡◌, ℕ, Bool, false, cond, nat_eq, List, [], ◌∷◌, ◌++◌, Option, Some, None}
use Rattle.std.specs.Cmp.Lexicographic.{pointwise}
use Rattle.std.specs.declared.ops.ControlFlow.{ControlFlow}
use Rattle.std.specs.declared.ops.ControlFlow.TheVariants.{Continue, Break}
use Rattle.plir_walk.specs.declared.interruptible.WalkContinue.{WalkContinue}
use Rattle.plir_walk.specs.declared.interruptible.WalkContinue.TheVariants.{Advance, Skip}
use Rattle.plir_core.specs.declared.ptr.Ptr.{Ptr}
use Rattle.plir_core.specs.declared.ptr.Operation.{Operation as OperationKind}
use Rattle.plir_core.specs.Contents.{OpView}
use Rattle.plir_core.specs.ContextView.{ContextView}
use Rattle.plir_flow.specs.declared.calls.CallOpCallable.{CallOpCallable}
use Rattle.plir_flow.specs.declared.calls.CallOpCallable.TheVariants.{Direct, Indirect}
use Rattle.plir_flow_sets.specs.Calls.{CallView}
use Rattle.plir_flow_sets.specs.Told.{told_of}

-- whether what is called is the function of a name
abbrev pub is_named : List ℕ → CallOpCallable → Bool
is_named name (Direct called) = pointwise nat_eq called name
is_named name (Indirect value) = false

-- whether what is told is a call of the function of a name
abbrev pub is_call_of : List ℕ → Option CallView → Bool
is_call_of name None = false
is_call_of name (Some c) = is_named name c.callee

module _ {K A T : Type 0} (calls : OpView K A → Option CallView) (name : List ℕ) (s : ContextView K A T) where
  -- the operation, if it calls the function of the name
  abbrev pub site_at : Ptr OperationKind → List (Ptr OperationKind)
  site_at p = cond (is_call_of name (told_of calls s p)) (p ∷ []) []

  -- What a call at an operation does to a list of operations: this one is added, if it calls the function, and the walk
  -- goes on; or it is broken off.
  abbrev pub IsSitePut : {B : Type 0} → List (Ptr OperationKind) → Ptr OperationKind → ControlFlow B WalkContinue →
      List (Ptr OperationKind) → Type 0
  IsSitePut ps p (Continue Advance) ps' = ps' ≡ ps ++ site_at p
  IsSitePut ps p (Continue Skip) ps' = ⊥
  IsSitePut ps p (Break b) ps' = Unit {0}
