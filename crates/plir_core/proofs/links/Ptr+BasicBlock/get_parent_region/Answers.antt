use Rattle.plir_core.specs.declared.ptr.IRNode.TheVariants.{Region, BasicBlock}
use Rattle.plir_core.proofs.links.Ptr+BasicBlock.get_parent_region.Goals as goal
use Rattle.plir_core.proofs.Answered.{over_told}

pub returns-clause-live : goal.returns-clause-live
returns-clause-live g c = over_told c.ctx.view_is c.ctx.invariant.whole Region c.parent_of_block.result
    (BasicBlock c.args.self) c.parent_of_block.ensures
