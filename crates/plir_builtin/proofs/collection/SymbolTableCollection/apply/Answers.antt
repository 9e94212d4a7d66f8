use Rattle.std.proofs.Common.{sym, subst}
use Rattle.plir_builtin.specs.SymbolEdits.{IsStep}
use Rattle.plir_builtin.proofs.collection.SymbolTableCollection.apply.Goals as goal

pub returns-in-Insert-clause-step : goal.returns-in-Insert-clause-step
returns-in-Insert-clause-step g c = λ all.
    subst (λ e. IsStep g.D.OpSet.is_terminator g.D.OpSet.is_symbol g.D.OpSet.is_symbol_table c.args.ctx.now
    c.args.self.now e c.apply_insert.result c.apply_insert.new.ctx c.apply_insert.new.self) (sym c.in-Insert.is)
    (c.apply_insert.ensures.step all)

pub returns-in-Remove-clause-step : goal.returns-in-Remove-clause-step
returns-in-Remove-clause-step g c = λ all.
    subst (λ e. IsStep g.D.OpSet.is_terminator g.D.OpSet.is_symbol g.D.OpSet.is_symbol_table c.args.ctx.now
    c.args.self.now e c.apply_remove.result c.apply_remove.new.ctx c.apply_remove.new.self) (sym c.in-Remove.is)
    (c.apply_remove.ensures.step all)

pub returns-in-Erase-clause-step : goal.returns-in-Erase-clause-step
returns-in-Erase-clause-step g c = λ all.
    subst (λ e. IsStep g.D.OpSet.is_terminator g.D.OpSet.is_symbol g.D.OpSet.is_symbol_table c.args.ctx.now
    c.args.self.now e c.apply_erase.result c.apply_erase.new.ctx c.apply_erase.new.self) (sym c.in-Erase.is)
    (c.apply_erase.ensures.step all)
