use Rattle.std.proofs.Common.{ap, sym, ◌∙◌, ◌∷◌}
use Rattle.plir_checks.specs.Blanks.{squeezed}
use Rattle.plir_checks.specs.Lines.{behind_blanks}
use Rattle.plir_checks.proofs.Squeezing.{blank_first, from_on}
use Rattle.plir_checks.proofs.meeting.next_if.Goals as goal

pub returns-then-wanted-eq32 : goal.returns-then-wanted-eq32
returns-then-wanted-eq32 c =
    let b = blank_first c.args.bytes.now c.behind_blanks.result.now c.in-len1-up.len_at_least
    (sym c.is_ascii_whitespace.ensures.value ∙ c.if-is_ascii_whitespace.true)
    (c.behind_blanks.ensures ∙ ap behind_blanks (from_on 1 c.args.bytes.now)) in
    b.0 ∙ ap (λ w. w ∷ squeezed c.behind_blanks.result.now) (sym c.if-wanted-eq32.true)
