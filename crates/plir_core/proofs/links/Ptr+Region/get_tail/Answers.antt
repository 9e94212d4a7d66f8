use Rattle.plir_core.specs.declared.ptr.IRNode.TheVariants.{Region, BasicBlock}
use Rattle.plir_core.proofs.links.Ptr+Region.get_tail.Goals as goal
use Rattle.plir_core.proofs.Answered.{last_stands, stands_live}

pub returns-clause-here : goal.returns-clause-here
returns-clause-here g c = last_stands c.ctx.view_is c.ctx.invariant.whole BasicBlock c.last_block.result
    (Region c.args.self) c.last_block.ensures

pub returns-clause-live : goal.returns-clause-live
returns-clause-live g c = stands_live c.args.ctx.now BasicBlock (Region c.args.self) _ (returns-clause-here g c)
