use Rattle.std.proofs.Common.{map, take}
use Rattle.plir_pipelines.specs.Pipelines.{AreSteps}
use Rattle.plir_pipelines.proofs.pipeline.steps_in.Given as goal

-- the words so far are the passes so far
abbrev pub invariant-loop-word : goal.invariant-loop-word
invariant-loop-word l = AreSteps (map (λ w. w.now) (take l.word-index l.words)) l.steps.items
