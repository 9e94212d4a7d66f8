-- Texts that are nested as a tree.
use Rattle.std.specs.Prelude.{◌≡◌, ℕ, zero, suc, List, [], ◌++◌}
use Rattle.std.specs.List.{flat_map}
use Rattle.plir_core.specs.declared.ptr.IRNode.{IRNode}
use Rattle.plir_core.specs.ContextView.{ContextView, children}
use Rattle.plir_print.specs.OpText.{room}

-- `opens` gives what stands in front of the children of a node, `closes` what stands behind them.
module _ {K A T : Type 0} (s : ContextView K A T) (opens closes : IRNode → List ℕ) where
  -- The text of a node: what opens it, the texts of all its children in their order, and what closes it; to k levels.
  abbrev pub nested_at : (k : ℕ) → IRNode → List ℕ
  nested_at zero x = []
  nested_at (suc k) x = opens x ++ (flat_map (nested_at k) (children s x) ++ closes x)

  -- the same to more levels than there can be below a node
  abbrev pub nested : IRNode → List ℕ
  nested x = nested_at (room s x) x

-- No level is left out, however deep a node stands.
abbrev pub IsNestedWhole : {K A T : Type 0} → ContextView K A T → Type 0
IsNestedWhole s = (opens closes : IRNode → List ℕ) (x : IRNode) →
    nested s opens closes x ≡ opens x ++ (flat_map (nested s opens closes) (children s x) ++ closes x)
