use Rattle.plir_core.proofs.laws.block_edits_join.Goals as goal
use Rattle.plir_core.proofs.Joining.{block-edits-join, block-edits-same}

pub returns-clause-join : goal.returns-clause-join
returns-clause-join g c = block-edits-join c.args.ctx.now c.args.block

pub returns-clause-same : goal.returns-clause-same
returns-clause-same g c = block-edits-same c.args.ctx.now c.args.block
