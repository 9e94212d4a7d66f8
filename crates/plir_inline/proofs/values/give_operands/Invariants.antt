use Rattle.plir_core.specs.ContextView.{operands_of}
use Rattle.plir_core.specs.WellFormed.{IsWellFormed}
use Rattle.plir_inline.specs.Given.{IsGiven, given_first}
use Rattle.plir_inline.proofs.values.give_operands.Given as goal

abbrev pub invariant-loop-i : goal.invariant-loop-i
invariant-loop-i g l =
    IsGiven l.fn.ctx l.ctx (given_first l.owner (operands_of l.fn.ctx l.giver) l.i)
    × IsWellFormed g.D.OpSet.attr_handles l.ctx
