use Rattle.std.proofs.Common.{◌∙◌}
use Rattle.plir_checks.proofs.Squeezing.{begins_next}
use Rattle.plir_checks.proofs.meeting.begins.Goals as goal

pub loop-wanted-preserved : goal.loop-wanted-preserved
loop-wanted-preserved c =
    begins_next c.loop-wanted.rest.now c.loop-wanted.sought.now c.in-Some-next_if.behind.now c.in-Some.others.now
    c.in-Some.wanted c.in-Some.ensures.0 c.in-Some-next_if.ensures
    ∙ c.loop-wanted.invariant
