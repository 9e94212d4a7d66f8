use Rattle.std.proofs.lemmas.Result.{on_ok_weaker}
use Rattle.plir_core.specs.declared.ptr.IRNode.TheVariants.{BasicBlock}
use Rattle.plir_bench.proofs.building.add_bare.Goals as goal

pub put_op-requires-clause-body_live : goal.put_op-requires-clause-body_live
put_op-requires-clause-body_live c = c.in_ok-op.ensures.keeps.live (BasicBlock c.args.body) c.requires

pub put_op-requires-clause-not_above : goal.put_op-requires-clause-not_above
put_op-requires-clause-not_above c = c.in_ok-op.ensures.apart (BasicBlock c.args.body) c.requires

pub returns : goal.returns
returns c =
    let body = BasicBlock c.args.body in
    let live = c.put_op.ensures body (c.in_ok-op.ensures.keeps.live body c.requires) in
    on_ok_weaker c.add_block.result (λ keeps. keeps body live) c.add_block.ensures
