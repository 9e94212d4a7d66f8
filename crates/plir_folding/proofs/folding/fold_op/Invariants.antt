use Rattle.plir_folding.proofs.Below.{IsFoldingOp}
use Rattle.plir_folding.proofs.folding.fold_op.Given as goal

abbrev pub invariant-loop-place : goal.invariant-loop-place
invariant-loop-place g l =
    IsFoldingOp g.D.FoldSet.fold g.D.OpSet.attr_handles l.fn.ctx l.ctx l.fn.block l.fn.op l.fn.before l.changed l.place
