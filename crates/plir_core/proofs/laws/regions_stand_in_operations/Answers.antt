use Rattle.plir_core.proofs.Owned.{region-owned}
use Rattle.plir_core.proofs.laws.regions_stand_in_operations.Goals as goal

pub returns : goal.returns
returns g c = λ r live. region-owned c.args.ctx.now.nodes c.stands.ensures.whole.stored r live
