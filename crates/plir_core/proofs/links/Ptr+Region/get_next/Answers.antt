use Rattle.plir_core.specs.declared.ptr.IRNode.TheVariants.{Region}
use Rattle.plir_core.proofs.links.Ptr+Region.get_next.Goals as goal
use Rattle.plir_core.proofs.Answered.{next_told, next_shares}

pub returns-clause-live : goal.returns-clause-live
returns-clause-live g c = next_told c.ctx.view_is c.ctx.invariant.whole Region _ c.args.self c.next_region.ensures

pub returns-clause-beside : goal.returns-clause-beside
returns-clause-beside g c = next_shares c.ctx.view_is c.ctx.invariant.whole Region c.next_region.result c.args.self
    c.next_region.ensures
