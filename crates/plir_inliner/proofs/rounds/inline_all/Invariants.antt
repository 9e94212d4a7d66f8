use Rattle.plir_inliner.proofs.Going.{IsGoing}
use Rattle.plir_inliner.proofs.rounds.inline_all.Given as goal

abbrev pub invariant-rounds : goal.invariant-rounds
invariant-rounds g l =
    IsGoing g.D.OpSet.is_symbol g.D.OpSet.is_symbol_table g.D.OpSet.attr_handles g.D.CallSet.call g.D.CallSet.returned
    l.fn.root l.fn.ctx l.fn.tally l.ctx l.tally l.tables

abbrev pub decreases-rounds : goal.decreases-rounds
decreases-rounds g l = l.tally.left
