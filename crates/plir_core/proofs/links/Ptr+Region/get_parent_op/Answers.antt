use Rattle.plir_core.specs.declared.ptr.IRNode.TheVariants.{Operation, Region}
use Rattle.plir_core.proofs.links.Ptr+Region.get_parent_op.Goals as goal
use Rattle.plir_core.proofs.Answered.{over_told}

pub returns-clause-live : goal.returns-clause-live
returns-clause-live g c = over_told c.ctx.view_is c.ctx.invariant.whole Operation c.parent_of_region.result
    (Region c.args.self) c.parent_of_region.ensures
