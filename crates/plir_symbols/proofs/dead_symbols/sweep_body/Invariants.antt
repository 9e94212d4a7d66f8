use Rattle.std.specs.Prelude.{not}
use Rattle.plir_core.specs.declared.ptr.IRNode.TheVariants.{BasicBlock}
use Rattle.plir_core.specs.ContextView.{children}
use Rattle.plir_walk.specs.NodeLaws.{left_from}
use Rattle.plir_symbols.specs.Reaching.{is_among, ops_of}
use Rattle.plir_symbols.proofs.SweepLoop.{IsSweeping}
use Rattle.plir_symbols.proofs.dead_symbols.sweep_body.Given as goal

abbrev pub invariant-symbols : goal.invariant-symbols
invariant-symbols g l =
    IsSweeping g.D.OpSet.is_symbol g.D.OpSet.is_symbol_table g.D.SymbolNames.is_private
    (λ p. not (is_among (ops_of l.fn.reached) p)) l.fn.ctx l.fn.table l.fn.block l.ctx l.table l.erased l.at

abbrev pub decreases-symbols : goal.decreases-symbols
decreases-symbols g l = left_from (children l.ctx (BasicBlock l.fn.block)) l.at
