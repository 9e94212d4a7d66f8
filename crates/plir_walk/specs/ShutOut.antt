-- What the answer Skip leaves out.
use Rattle.std.specs.Prelude.{◌≡◌, List}
use Rattle.std.specs.declared.ops.ControlFlow.TheVariants.{Continue}
use Rattle.plir_walk.specs.declared.interruptible.WalkContinue.TheVariants.{Skip}
use Rattle.plir_core.specs.declared.ptr.IRNode.{IRNode}
use Rattle.plir_walk.specs.declared.config.Order.TheVariants.{PreOrder}
use Rattle.plir_walk.specs.declared.config.WalkConfig.{WalkConfig}
use Rattle.plir_store.specs.Members.{Has}
use Rattle.plir_walk.specs.Config.{order_of}
use Rattle.plir_walk.specs.Tree.{Tree, IsUnder, IsProperlyUnder}
use Rattle.plir_walk.specs.Calls.{Call}

-- a was called with the answer Skip
abbrev pub IsSkipped : {C S B : Type 0} → List (Call C S B) → IRNode → Type 0
IsSkipped {C} {S} {B} calls a = (x : Call C S B) × Has calls x × (x.node ≡ a) × (x.answer ≡ Continue Skip)

-- A node under the root r is shut out by a list of calls if a proper ancestor of it, at or under the root, is PreOrder
-- and was called with the answer Skip.
pub record IsShutOut {C S B : Type 0} (w : WalkConfig) (t : Tree) (r : IRNode) (calls : List (Call C S B))
    (n : IRNode) : Type 0 where
  pub ancestor : IRNode
  pub under_root : IsUnder t r ancestor
  pub above : IsProperlyUnder t ancestor n
  pub order : order_of w ancestor ≡ PreOrder
  pub skipped : IsSkipped calls ancestor
