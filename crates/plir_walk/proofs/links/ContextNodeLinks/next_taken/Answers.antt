use Rattle.std.proofs.Common.{◌∙◌, sym}
use Rattle.plir_walk.proofs.TakenLinks.{next-taken, prev-taken}
use Rattle.plir_walk.proofs.links.ContextNodeLinks.next_taken.Goals as goal

pub returns-in-Forward : goal.returns-in-Forward
returns-in-Forward g c =
    let n = g.N.TypedNode.node c.args.node in
    c.next_sibling.ensures.value ∙ next-taken c.args.config.now c.args.self.now.nodes
    c.next_sibling.ensures.whole.stored n
    c.requires (sym c.direction_above.ensures ∙ c.in-Forward.is)

pub returns-in-Reverse : goal.returns-in-Reverse
returns-in-Reverse g c =
    let n = g.N.TypedNode.node c.args.node in
    c.prev_sibling.ensures.value ∙ prev-taken c.args.config.now c.args.self.now.nodes
    c.prev_sibling.ensures.whole.stored n
    c.requires (sym c.direction_above.ensures ∙ c.in-Reverse.is)
