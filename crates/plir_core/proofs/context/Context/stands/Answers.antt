use Rattle.plir_core.proofs.Standing.{standing}
use Rattle.plir_core.proofs.context.Context.stands.Goals as goal

pub returns-clause-standing : goal.returns-clause-standing
returns-clause-standing g c = standing c.args.self.now g.D.OpSet.attr_handles c.num_live-count.ensures.whole
