use Rattle.plir_core.specs.ContextView.{num_live}
use Rattle.plir_symbols.proofs.Rounds.{IsRounds}
use Rattle.plir_symbols.proofs.dead_symbols.sweep_table.Given as goal

abbrev pub invariant-rounds : goal.invariant-rounds
invariant-rounds g l =
    IsRounds g.D.OpSet.is_symbol g.D.OpSet.is_symbol_table g.D.SymbolNames.is_private g.D.SymbolNames.names_used
    l.fn.ctx l.fn.table l.block l.ctx l.table

abbrev pub decreases-rounds : goal.decreases-rounds
decreases-rounds g l = num_live l.ctx
