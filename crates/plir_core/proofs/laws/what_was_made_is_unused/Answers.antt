use Rattle.plir_core.proofs.laws.what_was_made_is_unused.Goals as goal
use Rattle.plir_core.proofs.MadeUnused.{made_unused}

pub returns : goal.returns
returns g c = λ made root m. made_unused _ c.args.ctx.now made root c.stands.ensures.whole m
