use Rattle.plir_core.specs.declared.ptr.IRNode.TheVariants.{Operation, Region}
use Rattle.plir_core.proofs.links.Ptr+Operation.get_region.Goals as goal
use Rattle.plir_core.proofs.Answered.{place_told}

pub returns-clause-live : goal.returns-clause-live
returns-clause-live g c = (place_told g.D.OpSet.attr_handles _ c.args.ctx.now c.ctx.view_is c.ctx.invariant.whole
    (Operation c.args.self) (Region c.region.result) c.args.i c.region.ensures).0

pub returns-clause-child : goal.returns-clause-child
returns-clause-child g c = (place_told g.D.OpSet.attr_handles _ c.args.ctx.now c.ctx.view_is c.ctx.invariant.whole
    (Operation c.args.self) (Region c.region.result) c.args.i c.region.ensures).1
