use Rattle.std.proofs.Common.{rules}
use Rattle.plir_core.specs.ContextView.{IsLive}
use Rattle.plir_core.specs.declared.ptr.IRNode.TheVariants.{BasicBlock}
use Rattle.plir_bench.proofs.summing.add_constant.Goals as goal

pub put_op-requires-clause-body_live : goal.put_op-requires-clause-body_live
put_op-requires-clause-body_live c =
    let live : IsLive c.integer_type.new.ctx (BasicBlock c.args.body) = search rules in
    c.in_ok-constant.ensures.made.keeps.live (BasicBlock c.args.body) live

pub put_op-requires-clause-not_above : goal.put_op-requires-clause-not_above
put_op-requires-clause-not_above c =
    let live : IsLive c.integer_type.new.ctx (BasicBlock c.args.body) = search rules in
    c.in_ok-constant.ensures.made.apart (BasicBlock c.args.body) live

pub returns : goal.returns
returns c =
    let live : IsLive c.integer_type.new.ctx (BasicBlock c.args.body) = search rules in
    c.put_op.ensures (BasicBlock c.args.body) (c.in_ok-constant.ensures.made.keeps.live (BasicBlock c.args.body) live)
