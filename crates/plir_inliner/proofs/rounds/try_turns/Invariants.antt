use Rattle.plir_inliner.proofs.Going.{IsGoing}
use Rattle.plir_inliner.proofs.rounds.try_turns.Given as goal

abbrev pub invariant-loop-turn : goal.invariant-loop-turn
invariant-loop-turn g l =
    IsGoing g.D.OpSet.is_symbol g.D.OpSet.is_symbol_table g.D.OpSet.attr_handles g.D.CallSet.call g.D.CallSet.returned
    l.fn.root l.fn.ctx l.fn.tally l.ctx l.tally l.tables
