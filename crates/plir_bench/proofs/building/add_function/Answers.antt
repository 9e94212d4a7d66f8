use Rattle.plir_core.specs.declared.ptr.IRNode.TheVariants.{BasicBlock}
use Rattle.plir_bench.proofs.building.add_function.Goals as goal

pub put_op-requires-clause-body_live : goal.put_op-requires-clause-body_live
put_op-requires-clause-body_live c = c.in_ok-func.ensures.keeps.live (BasicBlock c.args.body) c.requires.body_live

pub put_op-requires-clause-not_above : goal.put_op-requires-clause-not_above
put_op-requires-clause-not_above c = c.in_ok-func.ensures.apart (BasicBlock c.args.body) c.requires.body_live

pub returns : goal.returns
returns c =
    c.put_op.ensures (BasicBlock c.args.body)
    (c.in_ok-func.ensures.keeps.live (BasicBlock c.args.body) c.requires.body_live)
