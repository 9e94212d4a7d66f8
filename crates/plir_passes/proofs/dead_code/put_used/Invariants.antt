use Rattle.plir_core.specs.ContextView.{operands_of}
use Rattle.plir_passes.specs.Worklists.{WaitAgain}
use Rattle.plir_passes.proofs.Using.{IsBefore}
use Rattle.plir_passes.proofs.dead_code.put_used.Given as goal

abbrev pub invariant-loop-place : goal.invariant-loop-place
invariant-loop-place g l = WaitAgain (IsBefore (operands_of l.ctx l.op) l.place) l.fn.list l.list
