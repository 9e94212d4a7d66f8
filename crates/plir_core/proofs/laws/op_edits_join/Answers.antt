use Rattle.plir_core.proofs.laws.op_edits_join.Goals as goal
use Rattle.plir_core.proofs.Joining.{edits-join, edits-same}

pub returns-clause-join : goal.returns-clause-join
returns-clause-join g c = edits-join c.args.ctx.now c.args.op

pub returns-clause-same : goal.returns-clause-same
returns-clause-same g c = edits-same c.args.ctx.now c.args.op
