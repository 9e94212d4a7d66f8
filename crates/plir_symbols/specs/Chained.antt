-- What a call graph keeps beside its edges, so that those of one operation are found one after another.
use Rattle.std.specs.Prelude.{◌≡◌, ℕ, suc, Bool, cond, List, [], ◌∷◌, ◌++◌, Option, Some, None, option_and_then}
use Rattle.std.specs.HashMap.{get}
use Rattle.plir_core.specs.declared.ptr.Ptr.{Ptr}
use Rattle.plir_core.specs.declared.ptr.Operation.{Operation as OperationKind}
use Rattle.plir_symbols.specs.CallGraph.{is_found}
use Rattle.plir_symbols.specs.Reaching.{ptr_eq}
use Rattle.plir_symbols.specs.declared.call_edges.CallEdge.{CallEdge}
use Rattle.plir_symbols.specs.declared.call_edges.End.{End}
use Rattle.plir_symbols.specs.declared.call_edges.End.TheVariants.{User, Symbol}
use Rattle.plir_symbols.specs.declared.chains.Chains.{Chains}

-- the operation at an end of an edge, if there is one, and what the edge has at its other end
abbrev pub at_end : End → CallEdge → Option (Ptr OperationKind)
at_end User e = Some e.user
at_end Symbol e = e.symbol

abbrev pub beyond : End → CallEdge → Option (Ptr OperationKind)
beyond User e = e.symbol
beyond Symbol e = Some e.user

-- what is found at its other end, if the operation p is at this one
abbrev pub found_by : End → Ptr OperationKind → CallEdge → Option (Ptr OperationKind)
found_by end p e = cond (is_found p (at_end end e)) (beyond end e) None

-- a place in what stands behind the first one, counted from that; with none there, that of the first one, if it passes
abbrev pub place_behind : (passes : Bool) → Option ℕ → Option ℕ
place_behind passes (Some i) = Some (suc i)
place_behind passes None = cond passes (Some 0) None

-- the place of the last one in a list that passes a test
abbrev pub last_place : {X : Type 0} → (X → Bool) → List X → Option ℕ
last_place test [] = None
last_place test (x ∷ xs) = place_behind (test x) (last_place test xs)

-- the last place of the operation p in a list that has an operation or none at each place
abbrev pub last_of : List (Option (Ptr OperationKind)) → Ptr OperationKind → Option ℕ
last_of ops p = last_place (is_found p) ops

-- beside each operation of a list its last place before that one; `before` stands in front of the list
abbrev pub earlier_in : (before : List (Option (Ptr OperationKind))) → List (Option (Ptr OperationKind)) →
    List (Option ℕ)
earlier_in before [] = []
earlier_in before (op ∷ ops) = option_and_then (last_of before) op ∷ earlier_in (before ++ op ∷ []) ops

-- The chains are those of a list: they tell of each operation its last place, and beside each place the one before it.
pub record AreChains (ops : List (Option (Ptr OperationKind))) (c : Chains) : Type 0 where
  pub earlier : c.earlier.items ≡ earlier_in [] ops
  pub latest : (p : Ptr OperationKind) → get ptr_eq c.latest p ≡ last_of ops p
