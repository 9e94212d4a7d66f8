-- What is left when dead symbols are erased.
use Rattle.std.specs.Prelude.{◌≡◌, ◌↔◌, ℕ, Bool, IsTrue, cond, List, [], ◌∷◌, Option, Some, None}
use Rattle.plir_core.specs.declared.ptr.Ptr.{Ptr}
use Rattle.plir_core.specs.declared.ptr.Operation.{Operation as OperationKind}
use Rattle.plir_core.specs.declared.ptr.IRNode.{IRNode}
use Rattle.plir_core.specs.declared.ptr.IRNode.TheVariants.{Operation, Region, BasicBlock}
use Rattle.plir_core.specs.Contents.{OpView}
use Rattle.plir_core.specs.ContextView.{ContextView, is_live}
use Rattle.plir_core.specs.Unused.{without_tree}
use Rattle.plir_walk.specs.Thinned.{IsThinned}
use Rattle.plir_builtin.specs.Symbols.{body, children_in, scan}
use Rattle.plir_symbols.specs.DeadSymbols.{IsDead, IsInBody, MayGo}

-- those operations among nodes for which a test holds
abbrev pub ops_that : (Ptr OperationKind → Bool) → List IRNode → List (Ptr OperationKind)
ops_that test [] = []
ops_that test (Operation p ∷ ns) = cond (test p) (p ∷ ops_that test ns) (ops_that test ns)
ops_that test (Region p ∷ ns) = ops_that test ns
ops_that test (BasicBlock p ∷ ns) = ops_that test ns

module _ {K A T : Type 0} where
  -- the context without the trees of some operations, which are erased one after another
  abbrev pub without_each : ContextView K A T → List (Ptr OperationKind) → ContextView K A T
  without_each s [] = s
  without_each s (p ∷ ps) = without_each (without_tree s (Operation p)) ps

module _ {K A T : Type 0} (own_symbol : K → Bool) (is_private : OpView K A → Bool) where
  -- From s to t symbols were erased one after another, each with all below it, and each could go when it went.
  abbrev pub AreErased : ContextView K A T → List (Ptr OperationKind) → ContextView K A T → Type 0
  AreErased s [] t = t ≡ s
  AreErased s (p ∷ ps) t = MayGo own_symbol is_private s p × AreErased (without_tree s (Operation p)) ps t

  -- From s to t private symbols are gone that could go, and nothing else has changed: what is left stands where it
  -- stood, in its order, and holds what it held.
  pub record AreSwept (s t : ContextView K A T) : Type 0 where
    pub gone : List (Ptr OperationKind)
    pub erased : AreErased s gone t
    pub thinned : IsThinned s t

  module _ (own_table : K → Bool) (names : OpView K A → List (List ℕ)) (table : Ptr OperationKind) where
    -- From s to t exactly the dead symbols of the table were erased, in the order in which they stood.
    pub record IsSweep (s t : ContextView K A T) : Type 0 where
      pub goes : Ptr OperationKind → Bool
      pub tells : (p : Ptr OperationKind) → IsInBody s table p →
          IsTrue (goes p) ↔ IsDead own_symbol is_private own_table names s table p
      pub after : t ≡ without_each s (ops_that goes (children_in s (body s table)))

    -- From s to t that was done again and again, by way of these contexts.
    abbrev pub AreSweeps : ContextView K A T → List (ContextView K A T) → ContextView K A T → Type 0
    AreSweeps s [] t = t ≡ s
    AreSweeps s (m ∷ ms) t = IsSweep s m × AreSweeps m ms t

module _ {K A T : Type 0} where
  -- an operation, if it is live
  abbrev pub if_live : ContextView K A T → Option (Ptr OperationKind) → Option (Ptr OperationKind)
  if_live t None = None
  if_live t (Some p) = cond (is_live t (Operation p)) (Some p) None

  -- a scan of the table's body in t finds for each name what it found in s, where that is live, else none
  abbrev pub AreScansLeft : (own_symbol : K → Bool) → ContextView K A T → Ptr OperationKind → ContextView K A T → Type 0
  AreScansLeft own_symbol s table t = (x : List ℕ) → scan own_symbol t table x ≡ if_live t (scan own_symbol s table x)
