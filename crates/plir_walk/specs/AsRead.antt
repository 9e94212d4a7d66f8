-- The tree as a list of calls reads it.
use Rattle.std.specs.Prelude.{List, [], ◌∷◌, cond}
use Rattle.std.specs.declared.ops.ControlFlow.{ControlFlow}
use Rattle.std.specs.declared.ops.ControlFlow.TheVariants.{Continue, Break}
use Rattle.plir_walk.specs.declared.interruptible.WalkContinue.{WalkContinue}
use Rattle.plir_walk.specs.declared.interruptible.WalkContinue.TheVariants.{Advance, Skip}
use Rattle.plir_core.specs.declared.ptr.IRNode.{IRNode}
use Rattle.plir_core.specs.Forest.{Shape}
use Rattle.plir_walk.specs.declared.config.Order.{Order}
use Rattle.plir_walk.specs.declared.config.Order.TheVariants.{PreOrder, PostOrder}
use Rattle.plir_walk.specs.declared.config.WalkConfig.{WalkConfig}
use Rattle.plir_walk.specs.Config.{order_of}
use Rattle.plir_walk.specs.Tree.{Tree, same}
use Rattle.plir_walk.specs.Calls.{Call}

-- no children after the answer Skip
abbrev pub unless_skip : {B : Type 0} → ControlFlow B WalkContinue → List IRNode → List IRNode
unless_skip (Continue Skip) after = []
unless_skip (Continue Advance) after = after
unless_skip (Break b) after = after

-- A called PreOrder node has the children that it had right after its call (none, if it answered Skip), a called
-- PostOrder node those right before its call.
abbrev pub children_by : {B : Type 0} → Order → ControlFlow B WalkContinue → List IRNode → List IRNode → List IRNode
children_by PreOrder a before after = unless_skip a after
children_by PostOrder a before after = before

module _ {C S B : Type 0} (look : C → Shape) (w : WalkConfig) where
  -- the children of a called node, as its call reads them
  abbrev pub children_at : Call C S B → List IRNode
  children_at x = children_by (order_of w x.node) x.answer ((look x.before).children x.node)
      ((look x.after).children x.node)

  -- The tree as read by the calls, with the exit e: a called node has the children that its call reads, any other node
  -- those at the exit (none, if it is dead there).
  abbrev pub tree_read : List (Call C S B) → C → Tree
  tree_read [] e n = (look e).children n
  tree_read (x ∷ xs) e n = cond (same x.node n) (children_at x) (tree_read xs e n)
