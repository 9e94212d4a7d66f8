use Rattle.plir_core.specs.declared.ptr.IRNode.TheVariants.{BasicBlock, Operation}
use Rattle.plir_core.proofs.placing.Ptr+Operation.move_before.Goals as goal
use Rattle.plir_core.proofs.Putting.{still_before}

pub put_op-requires : goal.put_op-requires
put_op-requires g c = still_before BasicBlock Operation c.args.self c.args.mark c.unlink.ensures.unlinked
    c.requires.live c.requires.mark_live c.requires.linked c.requires.not_above

pub returns-clause-moved : goal.returns-clause-moved
returns-clause-moved g c = (c.unlink.new.ctx.nodes, (c.unlink.ensures.unlinked, c.put_op.ensures.placed))
