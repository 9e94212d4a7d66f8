-- What can be seen of the nodes of a context, and what holds of it: they make a forest.
use Rattle.std.specs.Prelude.{◌≡◌, ℕ, suc, ◌^◌, Bool, true, List, Option, Some}
use Rattle.plir_store.specs.Members.{Has, Distinct}
use Rattle.plir_core.specs.declared.ptr.IRNode.{IRNode}
use Rattle.plir_core.specs.Above.{climb, EndsWithin}
use Rattle.plir_core.specs.ContextView.{ContextView, children, parent_of, is_live, given_out}

-- What can be seen of the nodes: the children of each node in order (none, if it is dead), the node right above it,
-- whether it is live, and whether it was ever given out.
pub record Shape : Type 0 where
  pub children : IRNode → List IRNode
  pub parent : IRNode → Option IRNode
  pub live : IRNode → Bool
  pub given : IRNode → Bool

-- the shape of a context
abbrev pub look : {K A T : Type 0} → ContextView K A T → Shape
look s = record {
  children = children s;
  parent = parent_of s;
  live = is_live s;
  given = given_out s;
}

-- x is below a
abbrev pub IsBelow : Shape → IRNode → IRNode → Type 0
IsBelow s a x = (k : ℕ) × (climb s.parent (suc k) (Some x) ≡ Some a)

-- The live nodes make a forest: the children of a node are live and are those that have it as their parent, each once;
-- live nodes were given out; and each climb ends, within more steps than there can be nodes, so that no node is above
-- itself.
pub record IsForest (s : Shape) : Type 0 where
  pub child_parent : (a x : IRNode) → Has (s.children a) x → s.parent x ≡ Some a
  pub parent_child : (a x : IRNode) → s.parent x ≡ Some a → Has (s.children a) x
  pub once : (a : IRNode) → Distinct (s.children a)
  pub child_live : (a x : IRNode) → Has (s.children a) x → s.live x ≡ true
  pub parent_live : (a x : IRNode) → s.parent x ≡ Some a → s.live a ≡ true
  pub live_given : (x : IRNode) → s.live x ≡ true → s.given x ≡ true
  pub ends : EndsWithin s.parent (2 ^ 40)
