use Rattle.std.proofs.lemmas.Result.{err_from_is_err_and}
use Rattle.plir_driver.proofs.Stopping.{graphed}
use Rattle.plir_driver.proofs.transform.print.Goals as goal

pub returns-in_err-draw_calls-in-CallGraph-clause-unprinted : goal.returns-in_err-draw_calls-in-CallGraph-clause-unprinted
returns-in_err-draw_calls-in-CallGraph-clause-unprinted g c =
    let p = err_from_is_err_and c.from_residual-in_err-draw_calls-in-CallGraph.result c.from_residual-in_err-draw_calls-in-CallGraph.ensures.1 in
    rw (p.1, p.2) (graphed g.D.OpSet g.D.SymbolNames.names_used c.args.root c.args.ctx.now c.args.form
    c.in_err-draw_calls-in-CallGraph.field-0.0 c.in-CallGraph.is c.in_err-draw_calls-in-CallGraph.ensures.refused)
