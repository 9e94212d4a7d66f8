use Rattle.plir_core.specs.declared.ptr.IRNode.TheVariants.{Operation}
use Rattle.plir_folding.proofs.Merges.{AreMergedTo}
use Rattle.plir_folding.proofs.merging.merge_all.Given as goal

abbrev pub invariant-merges : goal.invariant-merges
invariant-merges g l =
    AreMergedTo g.D.OpSet.attr_handles l.fn.ctx (Operation l.fn.root) l.merges l.merge-index l.ctx
