use Rattle.std.proofs.Common.{ap, sym, ◌∙◌}
use Rattle.plir_checks.specs.Lines.{behind_blanks}
use Rattle.plir_checks.proofs.Squeezing.{blank_first, from_on}
use Rattle.plir_checks.proofs.meeting.next_shown.Goals as goal

pub returns-then-is_ascii_whitespace : goal.returns-then-is_ascii_whitespace
returns-then-is_ascii_whitespace c =
    blank_first c.args.bytes.now c.behind_blanks.result.now c.in-len1-up.len_at_least
    (sym c.is_ascii_whitespace.ensures.value ∙ c.if-is_ascii_whitespace.true)
    (c.behind_blanks.ensures ∙ ap behind_blanks (from_on 1 c.args.bytes.now))
