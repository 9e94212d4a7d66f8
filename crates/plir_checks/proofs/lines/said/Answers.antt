use Rattle.std.proofs.Common.{ap, ◌∙◌, sym}
use Rattle.std.specs.Option.{option_and_then}
use Rattle.plir_checks.specs.Lines.{behind_word}
use Rattle.plir_checks.proofs.Fronts.{behind_found, behind_missing}
use Rattle.plir_checks.proofs.lines.said.Goals as goal

pub returns-in-Some : goal.returns-in-Some
returns-in-Some c =
    behind_found c.args.word.now c.in_ok-comment_of.field-0.now c.in-Some.rest.now c.trimmed.result.now
    c.in-Some.ensures.cases c.trimmed.ensures
    ∙ ap (option_and_then (behind_word c.args.word.now)) c.in_ok-comment_of.ensures

pub returns-in-None : goal.returns-in-None
returns-in-None c =
    sym (behind_missing c.args.word.now c.in_ok-comment_of.field-0.now c.in-None.ensures.cases)
    ∙ ap (option_and_then (behind_word c.args.word.now)) c.in_ok-comment_of.ensures
