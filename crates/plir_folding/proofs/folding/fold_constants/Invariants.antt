use Rattle.plir_core.specs.declared.ptr.IRNode.TheVariants.{Operation}
use Rattle.plir_core.specs.ContextView.{IsLive}
use Rattle.plir_folding.specs.Folding.{IsFoldedBelow}
use Rattle.plir_folding.proofs.Room.{room}
use Rattle.plir_folding.proofs.folding.fold_constants.Given as goal

abbrev pub invariant-rounds : goal.invariant-rounds
invariant-rounds g l =
    IsFoldedBelow g.D.FoldSet.fold g.D.OpSet.attr_handles l.fn.ctx (Operation l.fn.root) l.ctx ×
    IsLive l.ctx (Operation l.fn.root)

abbrev pub decreases-rounds : goal.decreases-rounds
decreases-rounds g l = room l.ctx
