-- How a call at a node may change what a walk sees of a context.
use Rattle.std.specs.Prelude.{◌≡◌, ◌≢◌, true, false, ◌⊎◌}
use Rattle.plir_core.specs.declared.ptr.IRNode.{IRNode}
use Rattle.plir_core.specs.Above.{Reaches}
use Rattle.plir_core.specs.Forest.{Shape, IsBelow, IsForest}

-- n is a live node of a forest, and it is r or stands below it
pub record StandsUnder (s : Shape) (r n : IRNode) : Type 0 where
  pub forest : IsForest s
  pub live : s.live n ≡ true
  pub under_root : Reaches s.parent n r

-- A lawful call at n, from s to s'. Every node that was live before it and is not below n is live after it, with the
-- same parent, and with the same children unless it is n. What is below n afterwards was below n before, or was never
-- given out before. What was given out before counts as given out after it.
pub record Lawful (s : Shape) (n : IRNode) (s' : Shape) : Type 0 where
  pub kept : (m : IRNode) → s.live m ≡ true → (IsBelow s n m → ⊥) → (s'.live m ≡ true) × (s'.parent m ≡ s.parent m) ×
      (m ≢ n → s'.children m ≡ s.children m)
  pub below : (m : IRNode) → IsBelow s' n m → IsBelow s n m ⊎ (s.given m ≡ false)
  pub given : (m : IRNode) → s.given m ≡ true → s'.given m ≡ true

-- the live nodes and all lists of children are the same
pub record SameShape (s s' : Shape) : Type 0 where
  pub live : (m : IRNode) → s'.live m ≡ s.live m
  pub children : (m : IRNode) → s'.children m ≡ s.children m
