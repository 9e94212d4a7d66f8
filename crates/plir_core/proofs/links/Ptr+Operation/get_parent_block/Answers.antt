use Rattle.plir_core.specs.declared.ptr.IRNode.TheVariants.{Operation, BasicBlock}
use Rattle.plir_core.proofs.links.Ptr+Operation.get_parent_block.Goals as goal
use Rattle.plir_core.proofs.Answered.{over_told}

pub returns-clause-live : goal.returns-clause-live
returns-clause-live g c = over_told c.ctx.view_is c.ctx.invariant.whole BasicBlock c.parent_of_op.result
    (Operation c.args.self) c.parent_of_op.ensures
