use Rattle.std.proofs.Common.{◌≡◌, length}
use Rattle.plir_core.specs.declared.ptr.IRNode.TheVariants.{Operation, BasicBlock}
use Rattle.plir_core.specs.Nodes.{node_children}
use Rattle.plir_core.specs.Stored.{IsStored}
use Rattle.plir_core.proofs.Transfer.{IsAllMoving}
use Rattle.plir_core.proofs.splicing.Ptr+BasicBlock.splice_before.Given as goal

abbrev pub invariant-loop-op : goal.invariant-loop-op
invariant-loop-op g l = record {
  moving : IsAllMoving l.fn.ctx.nodes l.ctx.nodes (BasicBlock l.fn.self) (Operation l.fn.mark);
  stored : IsStored l.ctx.nodes;
  types : l.ctx.types ≡ l.fn.ctx.types;
  blocks : l.ctx.nodes.blocks ≡ l.fn.ctx.nodes.blocks;
}

abbrev pub decreases-loop-op : goal.decreases-loop-op
decreases-loop-op g l = length (node_children l.ctx.nodes (BasicBlock l.fn.self))
