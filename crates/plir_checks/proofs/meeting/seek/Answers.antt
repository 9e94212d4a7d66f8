use Rattle.std.proofs.Common.{sym, ap, ◌∙◌}
use Rattle.plir_checks.specs.Lines.{lines_left}
use Rattle.plir_checks.proofs.Seeking.{met_next}
use Rattle.plir_checks.proofs.meeting.seek.Goals as goal

pub returns-then-has_text : goal.returns-then-has_text
returns-then-has_text c =
    met_next c.args.check.now.kind c.args.check.now.text.now (lines_left c.args.left) c.split_line.result.0.now
    (lines_left c.split_line.result.1) c.in-Next.is
    (ap lines_left c.in_ok-text.was ∙ c.split_line.ensures)
    (sym c.has_text.ensures ∙ c.if-has_text.true)
