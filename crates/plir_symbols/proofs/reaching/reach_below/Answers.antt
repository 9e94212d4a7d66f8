use Rattle.std.proofs.Common.{◌∙◌}
use Rattle.plir_symbols.proofs.ReachWalked.{walked-reached, reached-again}
use Rattle.plir_symbols.proofs.reaching.reach_below.Goals as goal

pub returns-in-Continue : goal.returns-in-Continue
returns-in-Continue g c =
    let names = g.D.SymbolNames.names_used in
    let own_table = g.D.OpSet.is_symbol_table in
    walked-reached own_table names c.args.ctx.now c.args.table.now c.args.root _
    (λ d u p a d' u' h.
    (h.stays, λ e. reached-again own_table names c.args.table.now p a (h.shows.0 ∙ e) h.shows.1 h.leaves h.met.1))
    c.stands.ensures.standing.forest _ _ c.in-Continue.is _ _ c.walk_ops.ensures
