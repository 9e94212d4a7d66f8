-- Where the arrows of a graph begin and end: at a box, and at a port in it.
use Rattle.std.specs.Prelude.{ℕ, List, ◌++◌, codes, Option, Some, None}
use Rattle.plir_core.specs.declared.ptr.IRNode.{IRNode}
use Rattle.plir_core.specs.declared.ptr.IRNode.TheVariants.{Operation, BasicBlock}
use Rattle.plir_core.specs.declared.value.Value.{Value}
use Rattle.plir_core.specs.declared.value.DefiningEntity.{DefiningEntity}
use Rattle.plir_core.specs.declared.value.DefiningEntity.TheVariants.{Op, Block}
use Rattle.plir_core.specs.ContextView.{ContextView, parent_of}
use Rattle.plir_core.specs.Texts.{node_text}

-- the first of two nodes, if there is one
abbrev pub either : Option IRNode → IRNode → IRNode
either None n = n
either (Some over) n = over

module _ {K A T : Type 0} (s : ContextView K A T) where
  -- the node in whose box a node is drawn: what stands right above it, or itself
  abbrev pub home : IRNode → IRNode
  home n = either (parent_of s n) n

  -- where the row of an operation is, as `block1v1:op2v1`
  abbrev pub seat : IRNode → List ℕ
  seat n = node_text (home n) ++ (codes ":" ++ node_text n)

  -- where what comes from an operation or a block does: at the operation's row, or at the head of the block's box
  abbrev pub origin_from : DefiningEntity → List ℕ
  origin_from (Op p) = seat (Operation p)
  origin_from (Block b) = node_text (BasicBlock b) ++ codes ":top"

  -- where a value comes from
  abbrev pub origin : Value → List ℕ
  origin v = origin_from v.entity
