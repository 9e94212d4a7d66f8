use Rattle.std.proofs.Common.{◌≡◌, length}
use Rattle.std.specs.Prelude.{option_map}
use Rattle.plir_core.specs.declared.ptr.IRNode.TheVariants.{Operation, BasicBlock}
use Rattle.plir_core.specs.Nodes.{node_children}
use Rattle.plir_core.specs.Stored.{IsStored}
use Rattle.plir_core.proofs.Transfer.{IsTailMoving}
use Rattle.plir_core.proofs.splicing.Ptr+BasicBlock.move_tail.Given as goal

abbrev pub invariant-loop-next : goal.invariant-loop-next
invariant-loop-next g l = record {
  moving : IsTailMoving l.fn.ctx.nodes l.ctx.nodes (BasicBlock l.fn.self) (BasicBlock l.target) (Operation l.fn.first)
      (option_map Operation l.next);
  stored : IsStored l.ctx.nodes;
  types : l.ctx.types ≡ l.fn.ctx.types;
  blocks : l.ctx.nodes.blocks ≡ l.fn.ctx.nodes.blocks;
}

abbrev pub decreases-loop-next : goal.decreases-loop-next
decreases-loop-next g l = length (node_children l.ctx.nodes (BasicBlock l.fn.self))
