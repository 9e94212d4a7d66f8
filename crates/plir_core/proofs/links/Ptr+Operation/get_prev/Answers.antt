use Rattle.plir_core.specs.declared.ptr.IRNode.TheVariants.{Operation}
use Rattle.plir_core.proofs.links.Ptr+Operation.get_prev.Goals as goal
use Rattle.plir_core.proofs.Answered.{prev_told, prev_shares}

pub returns-clause-live : goal.returns-clause-live
returns-clause-live g c = prev_told c.ctx.view_is c.ctx.invariant.whole Operation _ c.args.self c.prev_op.ensures

pub returns-clause-beside : goal.returns-clause-beside
returns-clause-beside g c = prev_shares c.ctx.view_is c.ctx.invariant.whole Operation c.prev_op.result c.args.self
    c.prev_op.ensures
