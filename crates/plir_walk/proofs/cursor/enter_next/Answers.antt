use Rattle.std.proofs.Common.{sym, ap, ◌∙◌}
use Rattle.std.specs.Prelude.{option_map}
use Rattle.plir_walk.proofs.Hops.{next-live}
use Rattle.plir_walk.proofs.cursor.enter_next.Goals as goal

pub enter-requires : goal.enter-requires
enter-requires g c =
    let node = g.N.TypedNode.node in
    next-live c.args.config.now (g.C.NodeLinks.look c.args.ctx.now) c.forest.ensures (node c.args.node)
    (node c.in-Some.sibling) (sym c.next_taken.ensures ∙ ap (option_map node) c.in-Some.is)
