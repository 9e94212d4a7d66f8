use Rattle.plir_core.specs.declared.ptr.IRNode.TheVariants.{BasicBlock}
use Rattle.plir_core.specs.ContextView.{children}
use Rattle.plir_walk.specs.NodeLaws.{left_from}
use Rattle.plir_folding.proofs.Listing.{IsListing}
use Rattle.plir_folding.proofs.merging.list_block.Given as goal

abbrev pub invariant-ops : goal.invariant-ops
invariant-ops g l = IsListing l.fn.ctx l.fn.block l.fn.merges.items l.merges.items l.firsts l.at

abbrev pub decreases-ops : goal.decreases-ops
decreases-ops g l = left_from (children l.fn.ctx (BasicBlock l.fn.block)) l.at
