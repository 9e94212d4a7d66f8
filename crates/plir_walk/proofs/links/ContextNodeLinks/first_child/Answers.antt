use Rattle.std.proofs.Common.{◌∙◌}
use Rattle.plir_walk.proofs.ListLinks.{first-is}
use Rattle.plir_walk.proofs.links.ContextNodeLinks.first_child.Goals as goal

pub returns : goal.returns
returns g c = c.first_child.ensures.value ∙ first-is c.args.self.now.nodes c.args.node
