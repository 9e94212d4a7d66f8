use Rattle.plir_core.specs.declared.ptr.IRNode.TheVariants.{Operation}
use Rattle.plir_agreement_tests.proofs.carrying.read.Goals as goal

pub returns-in-Ok : goal.returns-in-Ok
returns-in-Ok g c =
    c.new_nodes_keep_agreement.ensures.made c.args.ctx.now (Operation c.in-Ok.root) c.args.tables.now
    c.stands.ensures.whole (rw c.in-Ok.is at c.read_op-answer.ensures.made) c.requires.given c.requires.agree

pub returns-in-Err : goal.returns-in-Err
returns-in-Err g c =
    c.refused_reads_keep_agreement.ensures c.args.tables.now c.args.ctx.now c.read_op-answer.new.ctx
    c.stands.ensures.whole c.read_op-answer.ensures.whole c.requires.of_live c.read_op-answer.ensures.kept
    c.requires.agree
