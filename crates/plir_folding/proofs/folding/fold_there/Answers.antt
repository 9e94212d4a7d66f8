use Rattle.std.proofs.Common.{sym}
use Rattle.plir_core.specs.declared.ptr.IRNode.TheVariants.{Operation, BasicBlock}
use Rattle.plir_folding.proofs.Below.{below-above, below-none, below-over}
use Rattle.plir_folding.proofs.folding.fold_there.Goals as goal

pub returns-in_err-fold_op-clause-below : goal.returns-in_err-fold_op-clause-below
returns-in_err-fold_op-clause-below g c = λ n live b.
    below-above g.D.FoldSet.fold g.D.OpSet.attr_handles c.lawful_changes.ensures c.args.ctx.now c.fold_op.new.ctx
    (BasicBlock c.in-Some.block) n c.stands.ensures.whole live
    (below-over c.args.ctx.now n (Operation c.args.op) b (BasicBlock c.in-Some.block) (sym c.in-Some.ensures.value))
    c.in_err-fold_op.ensures.below

pub returns-in_ok-fold_op-clause-below : goal.returns-in_ok-fold_op-clause-below
returns-in_ok-fold_op-clause-below g c = λ n live b.
    below-above g.D.FoldSet.fold g.D.OpSet.attr_handles c.lawful_changes.ensures c.args.ctx.now c.fold_op.new.ctx
    (BasicBlock c.in-Some.block) n c.stands.ensures.whole live
    (below-over c.args.ctx.now n (Operation c.args.op) b (BasicBlock c.in-Some.block) (sym c.in-Some.ensures.value))
    c.in_ok-fold_op.ensures.below

pub returns-in_default-clause-below : goal.returns-in_default-clause-below
returns-in_default-clause-below g c = λ n live b.
    below-none g.D.FoldSet.fold g.D.OpSet.attr_handles c.lawful_changes.ensures c.args.ctx.now n c.stands.ensures.whole
