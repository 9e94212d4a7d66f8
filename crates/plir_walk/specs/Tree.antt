-- Trees, places in them, and the order of places.
use Rattle.std.specs.Prelude.{◌≡◌, ◌≢◌, ℕ, ◌<◌, Bool, false, List, [], ◌∷◌, Option, Some, slice_get}
use Rattle.std.specs.Prelude.{option_and_then, MatchOption, ◌⊎◌}
use Rattle.plir_core.specs.declared.ptr.IRNode.{IRNode}
use Rattle.plir_core.specs.declared.ptr.IRNode.TheVariants.{Operation, BasicBlock, Region}
use Rattle.plir_core.specs.SameValue.{same_ptr}
use Rattle.plir_walk.specs.declared.config.Order.TheVariants.{PreOrder, PostOrder}
use Rattle.plir_walk.specs.declared.config.Direction.{Direction}
use Rattle.plir_walk.specs.declared.config.Direction.TheVariants.{Forward, Reverse}
use Rattle.plir_walk.specs.declared.config.WalkConfig.{WalkConfig}
use Rattle.plir_walk.specs.Config.{order_of, direction_of}

-- A tree gives the children of each node.
abbrev pub Tree : Type 0
Tree = IRNode → List IRNode

-- whether two nodes are the same: of one kind, with one slot and one version
abbrev pub same : IRNode → IRNode → Bool
same (Operation p) (Operation q) = same_ptr p q
same (BasicBlock p) (BasicBlock q) = same_ptr p q
same (Region p) (Region q) = same_ptr p q
same _ _ = false

-- A place under a node is the list of child positions on the way from it.
abbrev pub Place : Type 0
Place = List ℕ

-- the node at a place under r
abbrev pub node_at : Tree → IRNode → Place → Option IRNode
node_at t r [] = Some r
node_at t r (i ∷ p) = option_and_then (λ c. node_at t c p) (slice_get (t r) i)

-- of two positions among the children of one node, the one that is taken first
abbrev pub Earlier : Direction → ℕ → ℕ → Type 0
Earlier Forward i j = i < j
Earlier Reverse i j = j < i

-- One place under r is before another. At the node where the two ways part: if one of the places is that node, it is
-- before what is below it where the node is PreOrder, and after it where the node is PostOrder; else the place that
-- goes on to the child that is taken first, in the direction of that node, is before the other.
abbrev pub Before : WalkConfig → Tree → IRNode → Place → Place → Type 0
Before w t r [] [] = ⊥
Before w t r [] (j ∷ q) = order_of w r ≡ PreOrder
Before w t r (i ∷ p) [] = order_of w r ≡ PostOrder
Before w t r (i ∷ p) (j ∷ q) = ((i ≢ j) × Earlier (direction_of w r) i j) ⊎
    ((i ≡ j) × MatchOption (slice_get (t r) i) ⊥ (λ c. Before w t c p q))

-- n is r, or below it
abbrev pub IsUnder : Tree → IRNode → IRNode → Type 0
IsUnder t r n = (p : Place) × (node_at t r p ≡ Some n)

-- n is below r
abbrev pub IsProperlyUnder : Tree → IRNode → IRNode → Type 0
IsProperlyUnder t r n = (i : ℕ) × (p : Place) × (node_at t r (i ∷ p) ≡ Some n)

-- each node under r has one place
abbrev pub HasOnePlaceEach : Tree → IRNode → Type 0
HasOnePlaceEach t r = (n : IRNode) (p q : Place) → node_at t r p ≡ Some n → node_at t r q ≡ Some n → p ≡ q

-- the place of a under r is before the place of b
pub record NodeBefore (w : WalkConfig) (t : Tree) (r a b : IRNode) : Type 0 where
  pub place_a : Place
  pub place_b : Place
  pub at_a : node_at t r place_a ≡ Some a
  pub at_b : node_at t r place_b ≡ Some b
  pub before : Before w t r place_a place_b
