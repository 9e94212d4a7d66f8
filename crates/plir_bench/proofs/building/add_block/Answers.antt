use Rattle.std.proofs.Common.{rules}
use Rattle.plir_core.specs.ContextView.{IsLive}
use Rattle.plir_core.specs.declared.ptr.IRNode.TheVariants.{Region}
use Rattle.plir_bench.proofs.building.add_block.Goals as goal

pub insert_at_back-requires-clause-target_live : goal.insert_at_back-requires-clause-target_live
insert_at_back-requires-clause-target_live c =
    let live : IsLive c.args.ctx.now (Region c.in_ok-region.region) = search rules in
    c.in_ok-block.ensures.keeps.live (Region c.in_ok-region.region) live

pub insert_at_back-requires-clause-not_above : goal.insert_at_back-requires-clause-not_above
insert_at_back-requires-clause-not_above c =
    let live : IsLive c.args.ctx.now (Region c.in_ok-region.region) = search rules in
    c.in_ok-block.ensures.apart (Region c.in_ok-region.region) live
