-- What one step of making a call graph leaves.
use Rattle.std.specs.Prelude.{◌≡◌, ℕ, Bool, cond, List, [], ◌∷◌, ◌++◌, ◌==◌, length}
use Rattle.std.specs.declared.ops.ControlFlow.{ControlFlow}
use Rattle.std.specs.declared.ops.ControlFlow.TheVariants.{Continue, Break}
use Rattle.plir_walk.specs.declared.interruptible.WalkContinue.{WalkContinue}
use Rattle.plir_walk.specs.declared.interruptible.WalkContinue.TheVariants.{Advance, Skip}
use Rattle.plir_core.specs.declared.ptr.Ptr.{Ptr}
use Rattle.plir_core.specs.declared.ptr.Operation.{Operation as OperationKind}
use Rattle.plir_core.specs.Contents.{OpView}
use Rattle.plir_core.specs.ContextView.{ContextView, op_at}
use Rattle.plir_symbols.specs.declared.call_edges.CallEdge.{CallEdge}
use Rattle.plir_symbols.specs.SymbolNames.{names_in}
use Rattle.plir_symbols.specs.CallGraph.{AreEdges, uses_by}

module _ {K A T : Type 0} (names : OpView K A → List (List ℕ)) (s : ContextView K A T) where
  -- the operation, if it uses a name
  abbrev pub user_at : Ptr OperationKind → List (Ptr OperationKind)
  user_at p = cond (length (names_in names (op_at s p)) == 0) [] (p ∷ [])

  -- What a call at an operation does to a list of operations: this one is added, if it uses a name, and the walk goes
  -- on; or it is broken off.
  abbrev pub IsUserPut : {B : Type 0} → List (Ptr OperationKind) → Ptr OperationKind → ControlFlow B WalkContinue →
      List (Ptr OperationKind) → Type 0
  IsUserPut ps p (Continue Advance) ps' = ps' ≡ ps ++ user_at p
  IsUserPut ps p (Continue Skip) ps' = ⊥
  IsUserPut ps p (Break b) ps' = Unit {0}

module _ {K A T : Type 0} (own_symbol own_table : K → Bool) (names : OpView K A → List (List ℕ))
    (s : ContextView K A T) where
  -- to the edges of any uses those of the operation were added
  abbrev pub AreEdgesPut : Ptr OperationKind → List CallEdge → List CallEdge → Type 0
  AreEdgesPut p es es' = (us : List (Ptr OperationKind × List ℕ)) → AreEdges own_symbol own_table s us es →
      AreEdges own_symbol own_table s (us ++ uses_by names s p) es'
