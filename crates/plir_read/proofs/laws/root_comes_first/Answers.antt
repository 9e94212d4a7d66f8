use Rattle.plir_read.specs.laws.TreesInOrder.{tree_is}
use Rattle.plir_read.proofs.laws.root_comes_first.Goals as goal

pub returns : goal.returns
returns g c = tree_is c.args.ctx.now (c.contexts_stand.ensures c.args.ctx.now c.stands.ensures.whole)
