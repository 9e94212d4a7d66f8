use Rattle.plir_core.specs.declared.ptr.IRNode.TheVariants.{Region, BasicBlock}
use Rattle.plir_core.proofs.links.Ptr+Region.get_head.Goals as goal
use Rattle.plir_core.proofs.Answered.{first_stands, stands_live}

pub returns-clause-here : goal.returns-clause-here
returns-clause-here g c = first_stands c.ctx.view_is c.ctx.invariant.whole BasicBlock c.first_block.result
    (Region c.args.self) c.first_block.ensures

pub returns-clause-live : goal.returns-clause-live
returns-clause-live g c = stands_live c.args.ctx.now BasicBlock (Region c.args.self) _ (returns-clause-here g c)
