use Rattle.std.proofs.Common.{ap, sym, subst, ◌∙◌}
use Rattle.plir_builtin.specs.Agree.{AllAgree}
use Rattle.plir_pictures.specs.DrawnCalls.{is_end}
use Rattle.plir_pictures.specs.Ends.{has_end}
use Rattle.plir_pictures.proofs.Drawn.{drawn}
use Rattle.plir_pictures.proofs.calls.draw_calls.Goals as goal

pub returns-clause-drawn : goal.returns-clause-drawn
returns-clause-drawn g c =
    let o = g.D.OpSet in
    let agree = subst (AllAgree o.is_symbol o.is_symbol_table c.args.ctx.now) (sym c.new-tables.ensures)
    c.no_tables_agree.ensures.agree in
    drawn o g.D.SymbolNames.names_used c.args.ctx.now c.args.root (has_end c.in_ok-ends.ends) _
    (λ p. c.in_ok-ends.ensures p ∙ ap (λ z. is_end z p) c.edges-edges.ensures) _ _ _ _ _ c.in_ok-text.ensures.ok
    c.in_ok-put_nested.ensures c.edges-edges.ensures c.in_ok-put_arrows.ensures c.in_ok-put.ensures.ok
    (c.in_ok-graph.ensures.graph agree)
