use Rattle.std.proofs.Common.{◌∙◌, ap, sym}
use Rattle.plir_store.specs.Members.{head}
use Rattle.plir_core.specs.Nodes.{node_children}
use Rattle.plir_walk.specs.Step.{taken}
use Rattle.plir_walk.proofs.ListLinks.{first-is, last-is}
use Rattle.plir_walk.proofs.links.ContextNodeLinks.first_taken.Goals as goal

pub returns-in-Forward : goal.returns-in-Forward
returns-in-Forward g c =
    let n = g.N.TypedNode.node c.args.node in
    let s = c.args.self.now.nodes in
    c.first_child.ensures ∙ (first-is s n ∙ ap (λ d. head (taken d (node_children s n)))
    (sym c.in-Forward.is ∙ c.direction.ensures))

pub returns-in-Reverse : goal.returns-in-Reverse
returns-in-Reverse g c =
    let n = g.N.TypedNode.node c.args.node in
    let s = c.args.self.now.nodes in
    c.last_child.ensures ∙ (last-is s n ∙ ap (λ d. head (taken d (node_children s n)))
    (sym c.in-Reverse.is ∙ c.direction.ensures))
