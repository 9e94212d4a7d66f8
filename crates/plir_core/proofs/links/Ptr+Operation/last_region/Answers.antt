use Rattle.plir_core.specs.declared.ptr.IRNode.TheVariants.{Operation, Region}
use Rattle.plir_core.proofs.links.Ptr+Operation.last_region.Goals as goal
use Rattle.plir_core.proofs.Answered.{last_stands, stands_live}

pub returns-clause-here : goal.returns-clause-here
returns-clause-here g c = last_stands c.ctx.view_is c.ctx.invariant.whole Region c.last_region.result
    (Operation c.args.self) c.last_region.ensures

pub returns-clause-live : goal.returns-clause-live
returns-clause-live g c = stands_live c.args.ctx.now Region (Operation c.args.self) _ (returns-clause-here g c)
