use Rattle.plir_core.specs.declared.ptr.IRNode.TheVariants.{BasicBlock}
use Rattle.plir_core.specs.ContextView.{children}
use Rattle.plir_walk.specs.NodeLaws.{left_from}
use Rattle.plir_symbols.proofs.KeptLoop.{IsKeeping}
use Rattle.plir_symbols.proofs.reaching.reach_all_kept.Given as goal

abbrev pub invariant-ops : goal.invariant-ops
invariant-ops g l =
    IsKeeping g.D.OpSet.is_symbol g.D.SymbolNames.is_private l.ctx l.fn.block l.fn.reached l.reached l.at

abbrev pub decreases-ops : goal.decreases-ops
decreases-ops g l = left_from (children l.ctx (BasicBlock l.fn.block)) l.at
