use Rattle.plir_core.proofs.laws.op_edits_keep_the_rest.Goals as goal
use Rattle.plir_core.proofs.EditsJoined.{op_is_edited}

pub returns : goal.returns
returns g c = λ f. op_is_edited c.args.ctx.now c.args.op f c.requires
