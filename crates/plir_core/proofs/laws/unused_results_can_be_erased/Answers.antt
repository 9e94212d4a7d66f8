use Rattle.plir_core.proofs.laws.unused_results_can_be_erased.Goals as goal
use Rattle.plir_core.proofs.ResultUses.{unused}

pub returns : goal.returns
returns g c = λ results regions. unused _ c.args.ctx.now c.stands.ensures.whole c.args.op results regions
