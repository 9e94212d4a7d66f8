use Rattle.plir_core.specs.declared.ptr.IRNode.TheVariants.{BasicBlock}
use Rattle.plir_core.specs.ContextView.{children}
use Rattle.plir_walk.specs.NodeLaws.{left_from}
use Rattle.plir_folding.proofs.Block.{IsFoldingBlock}
use Rattle.plir_folding.proofs.folding.fold_block.Given as goal

abbrev pub invariant-ops : goal.invariant-ops
invariant-ops g l =
    IsFoldingBlock g.D.FoldSet.fold g.D.OpSet.attr_handles l.fn.ctx l.ctx l.fn.block l.fn.before l.changed l.at

abbrev pub decreases-ops : goal.decreases-ops
decreases-ops g l = left_from (children l.ctx (BasicBlock l.fn.block)) l.at
