use Rattle.std.proofs.Common.{arith}
use Rattle.std.proofs.lemmas.Result.{err_from_is_err_and}
use Rattle.plir_pipelines.specs.Pipelines.{IsStep}
use Rattle.plir_pipelines.proofs.Written.{step-refused-at}
use Rattle.plir_pipelines.proofs.Zipped.{zip-next}
use Rattle.plir_pipelines.proofs.pipeline.steps_in.Goals as goal

pub returns-in_err-read_step-clause-refused : goal.returns-in_err-read_step-clause-refused
returns-in_err-read_step-clause-refused c =
    let p = err_from_is_err_and c.from_residual.result c.from_residual.ensures.1 in
    rw (p.1, p.2) (step-refused-at c.args.words.now c.loop-word.word-index _ (omega arith) c.loop-word.steps.items
    c.loop-word.invariant c.in_err-read_step.field-0.0 c.in_err-read_step.ensures.refused)

pub loop-word-preserved : goal.loop-word-preserved
loop-word-preserved c =
    zip-next c.args.words.now c.loop-word.word-index _ IsStep c.loop-word.steps.items c.push.new.self.items
    c.in_ok-read_step.field-0 c.in_ok-push.ensures.items (omega arith) c.loop-word.invariant
    c.in_ok-read_step.ensures.read
