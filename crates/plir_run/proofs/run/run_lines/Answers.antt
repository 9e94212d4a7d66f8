use Rattle.plir_run.proofs.run.run_lines.Goals as goal

pub loop-init : goal.loop-init
loop-init g c = record { agree = c.requires.agree.agree; given = c.requires.agree.given }

pub run_line-requires : goal.run_line-requires
run_line-requires g c = record { agree = record { agree = c.loop.invariant.agree; given = c.loop.invariant.given } }

pub loop-preserved : goal.loop-preserved
loop-preserved g c = record { agree = c.run_line.ensures.agree.agree; given = c.run_line.ensures.agree.given }
