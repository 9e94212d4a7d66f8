use Rattle.plir_core.specs.declared.ptr.IRNode.TheVariants.{BasicBlock}
use Rattle.plir_core.specs.ContextView.{children}
use Rattle.plir_walk.specs.NodeLaws.{left_from}
use Rattle.plir_passes.proofs.Converting.{IsConverting}
use Rattle.plir_passes.proofs.conversion.convert_block.Given as goal

abbrev pub invariant-ops : goal.invariant-ops
invariant-ops g l =
    IsConverting (g.C.Conversion.illegal l.fn.conversion) (g.C.Conversion.rewrites l.fn.conversion) l.fn.ctx l.ctx
    l.fn.block l.at

abbrev pub decreases-ops : goal.decreases-ops
decreases-ops g l = left_from (children l.ctx (BasicBlock l.fn.block)) l.at
