use Rattle.std.proofs.Common.{◌-◌}
use Rattle.plir_core.specs.ContextView.{num_live}
use Rattle.plir_symbols.proofs.Searching.{IsSearching}
use Rattle.plir_symbols.proofs.reaching.reached_symbols.Given as goal

abbrev pub invariant-ops : goal.invariant-ops
invariant-ops g l =
    IsSearching g.D.OpSet.is_symbol g.D.OpSet.is_symbol_table g.D.SymbolNames.is_private g.D.SymbolNames.names_used l.ctx
    l.table l.fn.block l.reached l.next

abbrev pub decreases-ops : goal.decreases-ops
decreases-ops g l = num_live l.ctx - l.next
