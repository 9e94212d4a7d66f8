use Rattle.plir_core.proofs.laws.block_edits_keep_the_rest.Goals as goal
use Rattle.plir_core.proofs.EditsJoined.{block_is_edited}

pub returns : goal.returns
returns g c = λ f. block_is_edited c.args.ctx.now c.args.block f c.requires
