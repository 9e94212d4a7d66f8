use Rattle.std.proofs.Common.{rules}
use Rattle.plir_core.specs.ContextView.{IsLive}
use Rattle.plir_core.specs.declared.ptr.IRNode.TheVariants.{BasicBlock}
use Rattle.plir_bench.proofs.blocks.add_block_behind.Goals as goal

pub insert_after-requires-clause-not_above : goal.insert_after-requires-clause-not_above
insert_after-requires-clause-not_above c =
    let live : IsLive c.args.ctx.now (BasicBlock c.args.mark) = search rules in
    c.in_ok-block.ensures.apart (BasicBlock c.args.mark) live
