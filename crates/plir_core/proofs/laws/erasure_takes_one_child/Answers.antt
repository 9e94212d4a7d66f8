use Rattle.plir_core.proofs.ChildrenLeft.{children-left}
use Rattle.plir_core.proofs.laws.erasure_takes_one_child.Goals as goal

pub returns : goal.returns
returns g c = λ after gone e keeps no yes m stays. children-left c.args.ctx.now.nodes after.nodes gone
    c.stands.ensures.whole.stored e keeps no yes m stays
