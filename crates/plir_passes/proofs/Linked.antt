-- What stands under something is live, and what is made and put before it leaves it so.
use Rattle.std.proofs.Common.{◌≡◌, Option, Some, None, refl}
use Rattle.std.specs.Prelude.{IsSome}
use Rattle.plir_core.specs.declared.ptr.IRNode.{IRNode}
use Rattle.plir_core.specs.Forest.{look, IsForest}
use Rattle.plir_core.specs.Made.{IsMade}
use Rattle.plir_core.specs.Placed.{IsPlacedBefore}
use Rattle.plir_core.specs.ContextView.{ContextView, IsLive, parent_of}
use Rattle.plir_walk.specs.Additions.{IsNewBefore}
use Rattle.plir_walk.specs.AdditionLaws.{new-before}

module _ {K A T : Type 0} (s : ContextView K A T) (n : IRNode) where
  pub linked-over : IsSome (parent_of s n) → (over : IRNode) × (parent_of s n ≡ Some over)
  linked-over = by (parent_of s n) refl
    where
      by : (o : Option IRNode) → parent_of s n ≡ o → IsSome o → (over : IRNode) × (parent_of s n ≡ Some over)
      by (Some over) e h = (over, e)
      by None e h = absurd (let z : ⊥ = cc h in z)

  pub linked-live : IsForest (look s) → IsSome (parent_of s n) → IsLive s n
  linked-live w h = (let o = linked-over h in w.child_live o.0 n (w.parent_child o.0 n o.1))

  pub new-before-linked : (t u : ContextView K A T) (x : IRNode) (h : IsSome (parent_of s n)) → IsForest (look s)
      → IsMade s.nodes t.nodes x → IsPlacedBefore t.nodes u.nodes x n → IsNewBefore s t u x n (linked-over h).0
  new-before-linked t u x h w made placed = new-before s t u x n (linked-over h).0 w (linked-over h).1 made placed
