use Rattle.plir_core.specs.declared.ptr.IRNode.TheVariants.{Operation, BasicBlock}
use Rattle.plir_core.proofs.links.Ptr+BasicBlock.get_tail.Goals as goal
use Rattle.plir_core.proofs.Answered.{last_stands, stands_live}

pub returns-clause-here : goal.returns-clause-here
returns-clause-here g c = last_stands c.ctx.view_is c.ctx.invariant.whole Operation c.last_op.result
    (BasicBlock c.args.self) c.last_op.ensures

pub returns-clause-live : goal.returns-clause-live
returns-clause-live g c = stands_live c.args.ctx.now Operation (BasicBlock c.args.self) _ (returns-clause-here g c)
