use Rattle.plir_passes.proofs.Unused.{unused-by-none, by-none-unused}
use Rattle.plir_passes.proofs.dead_code.is_unused.Goals as goal

pub returns-clause-used : goal.returns-clause-used
returns-clause-used g c =
    let leaf = c.nothing_stands_below_a_leaf.ensures in
    (unused-by-none c.args.ctx.now c.args.op leaf, by-none-unused c.args.ctx.now c.args.op leaf)
