use Rattle.std.proofs.Common.{◌≡◌, sym, subst}
use Rattle.std.proofs.lemmas.Result.{err_from_is_err_and}
use Rattle.plir_builtin.specs.Agree.{AllAgree}
use Rattle.plir_driver.specs.declared.pass_end.PassEnd.TheVariants.{Changed}
use Rattle.plir_driver.proofs.library.erase_symbols.Goals as goal

pub returns-clause-end : goal.returns-clause-end
returns-clause-end g c =
    c.end_of_erasures.ensures.end c.args.ctx.now (sym c.num_live-live_before.ensures.value)
    c.eliminate_dead_symbols.ensures.swept.thinned

pub returns-clause-exact : goal.returns-clause-exact
returns-clause-exact g c =
    λ told.
    (let is : c.end_of_erasures.result ≡ Changed = cc (told) in
    c.end_of_erasures.ensures.exact c.args.ctx.now (sym c.num_live-live_before.ensures.value) is)

pub returns-clause-sweeps : goal.returns-clause-sweeps
returns-clause-sweeps g c =
    c.eliminate_dead_symbols.ensures.sweeps
    (subst (λ q. AllAgree g.D.OpSet.is_symbol g.D.OpSet.is_symbol_table c.args.ctx.now q) (sym c.new-tables.ensures)
    c.no_tables_agree.ensures.agree)

pub returns-in_err-eliminate_dead_symbols-clause-sweeps : goal.returns-in_err-eliminate_dead_symbols-clause-sweeps
returns-in_err-eliminate_dead_symbols-clause-sweeps g c =
    c.eliminate_dead_symbols.ensures.sweeps
    (subst (λ q. AllAgree g.D.OpSet.is_symbol g.D.OpSet.is_symbol_table c.args.ctx.now q) (sym c.new-tables.ensures)
    c.no_tables_agree.ensures.agree)

pub returns-clause-clean : goal.returns-clause-clean
returns-clause-clean g c =
    c.in_ok-eliminate_dead_symbols.ensures.clean
    (subst (λ q. AllAgree g.D.OpSet.is_symbol g.D.OpSet.is_symbol_table c.args.ctx.now q) (sym c.new-tables.ensures)
    c.no_tables_agree.ensures.agree)

pub returns-in_err-eliminate_dead_symbols-clause-refused : goal.returns-in_err-eliminate_dead_symbols-clause-refused
returns-in_err-eliminate_dead_symbols-clause-refused g c =
    let p = err_from_is_err_and c.from_residual.result c.from_residual.ensures.1 in
    rw (p.1, p.2) (c.in_err-eliminate_dead_symbols.ensures.refused
    (subst (λ q. AllAgree g.D.OpSet.is_symbol g.D.OpSet.is_symbol_table c.args.ctx.now q) (sym c.new-tables.ensures)
    c.no_tables_agree.ensures.agree))
