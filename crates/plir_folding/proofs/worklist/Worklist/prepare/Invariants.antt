use Rattle.plir_folding.specs.Worklists.{WaitMore}
use Rattle.plir_folding.proofs.worklist.Worklist.prepare.Given as goal

abbrev pub invariant-loop-place : goal.invariant-loop-place
invariant-loop-place g l = WaitMore l.place l.initial.self l.self
