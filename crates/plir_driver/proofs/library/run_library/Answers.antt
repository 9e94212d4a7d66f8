use Rattle.std.proofs.Common.{sym, subst, ◌∙◌}
use Rattle.std.proofs.lemmas.Result.{err_from_is_err_and}
use Rattle.plir_core.specs.declared.ptr.IRNode.TheVariants.{Operation}
use Rattle.plir_driver.specs.LibraryPasses.{IsPassRefusal, IsPassed}
use Rattle.plir_driver.specs.StopOf.{of_table_in_pass}
use Rattle.plir_driver.proofs.Printing.{if-err, on-ok}
use Rattle.plir_driver.proofs.Stopping.{tabled}
use Rattle.plir_driver.proofs.library.run_library.Goals as goal

pub returns-in-EraseNames-clause-live : goal.returns-in-EraseNames-clause-live
returns-in-EraseNames-clause-live g c = c.erase_names.ensures.unnamed.live (Operation c.args.root) ∙ c.requires

pub returns-in-EraseNames-clause-passed : goal.returns-in-EraseNames-clause-passed
returns-in-EraseNames-clause-passed g c =
    subst (λ z. IsPassed g.D.EffectSet.has_effect g.D.OpSet.is_terminator g.D.OpSet.is_symbol g.D.OpSet.is_symbol_table
    g.D.SymbolNames.is_private g.D.SymbolNames.names_used z c.args.root c.args.ctx.now c.erase_names.new.ctx)
    (sym c.in-EraseNames.is) c.erase_names.ensures.unnamed

pub returns-in-Dce-clause-passed : goal.returns-in-Dce-clause-passed
returns-in-Dce-clause-passed g c =
    on-ok c.erase_unreached.result (λ swept. subst (λ z. IsPassed g.D.EffectSet.has_effect g.D.OpSet.is_terminator
    g.D.OpSet.is_symbol g.D.OpSet.is_symbol_table g.D.SymbolNames.is_private g.D.SymbolNames.names_used z c.args.root
    c.args.ctx.now c.erase_unreached.new.ctx) (sym c.in-Dce.is) swept) c.erase_unreached.ensures.swept

pub returns-in-Dce-clause-stopped : goal.returns-in-Dce-clause-stopped
returns-in-Dce-clause-stopped g c =
    if-err c.erase_unreached.result (λ e told. subst (λ z. IsPassRefusal g.D.OpSet.is_symbol g.D.OpSet.is_symbol_table
    z c.args.root c.args.ctx.now e) (sym c.in-Dce.is) told) c.erase_unreached.ensures.refused

pub returns-in_ok-erase_symbols-in-SymbolDce-clause-passed :
    goal.returns-in_ok-erase_symbols-in-SymbolDce-clause-passed
returns-in_ok-erase_symbols-in-SymbolDce-clause-passed g c =
    subst (λ z. IsPassed g.D.EffectSet.has_effect g.D.OpSet.is_terminator g.D.OpSet.is_symbol g.D.OpSet.is_symbol_table
    g.D.SymbolNames.is_private g.D.SymbolNames.names_used z c.args.root c.args.ctx.now c.erase_symbols.new.ctx)
    (sym c.in-SymbolDce.is) (
      c.erase_symbols.ensures.swept,
      c.erase_symbols.ensures.sweeps,
      c.in_ok-erase_symbols-in-SymbolDce.ensures.clean,
    )

pub returns-in_err-erase_symbols-in-SymbolDce-clause-stopped :
    goal.returns-in_err-erase_symbols-in-SymbolDce-clause-stopped
returns-in_err-erase_symbols-in-SymbolDce-clause-stopped g c =
    let p = err_from_is_err_and c.from_residual.result c.from_residual.ensures.1 in
    rw (p.1, p.2) (subst (λ z. IsPassRefusal g.D.OpSet.is_symbol g.D.OpSet.is_symbol_table z c.args.root c.args.ctx.now
    (of_table_in_pass c.in_err-erase_symbols-in-SymbolDce.field-0.0)) (sym c.in-SymbolDce.is)
    (tabled g.D.OpSet.is_symbol g.D.OpSet.is_symbol_table c.args.root c.args.ctx.now
    c.in_err-erase_symbols-in-SymbolDce.field-0.0 c.in_err-erase_symbols-in-SymbolDce.ensures.refused))
