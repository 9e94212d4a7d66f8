use Rattle.std.proofs.Common.{rules}
use Rattle.plir_core.specs.ContextView.{IsLive}
use Rattle.plir_core.specs.declared.ptr.IRNode.TheVariants.{BasicBlock}
use Rattle.plir_bench.proofs.blocks.add_branch.Goals as goal

pub put_op-requires-clause-body_live : goal.put_op-requires-clause-body_live
put_op-requires-clause-body_live c =
    let live : IsLive c.args.ctx.now (BasicBlock c.args.from) = search rules in
    c.in_ok-branch.ensures.keeps.live (BasicBlock c.args.from) live

pub put_op-requires-clause-not_above : goal.put_op-requires-clause-not_above
put_op-requires-clause-not_above c =
    let live : IsLive c.args.ctx.now (BasicBlock c.args.from) = search rules in
    c.in_ok-branch.ensures.apart (BasicBlock c.args.from) live
