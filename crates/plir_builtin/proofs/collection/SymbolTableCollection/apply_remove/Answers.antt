use Rattle.plir_builtin.specs.declared.symbol_edits.SymbolEdit.TheVariants.{Remove}
use Rattle.plir_builtin.proofs.EditSteps.{step-dead, step-unseen, step-uncalled, step-called}
use Rattle.plir_builtin.proofs.collection.SymbolTableCollection.apply_remove.Goals as goal

pub returns-then-not-are_live-clause-step : goal.returns-then-not-are_live-clause-step
returns-then-not-are_live-clause-step g c =
    λ all. step-dead g.D.OpSet.is_terminator g.D.OpSet.is_symbol g.D.OpSet.is_symbol_table c.args.ctx.now
    c.args.self.now all (Remove c.args.table c.args.op) (λ h. c.are_live.ensures.no c.if-not-are_live.true h.0 h.1)

pub returns-in-Err-clause-step : goal.returns-in-Err-clause-step
returns-in-Err-clause-step g c = λ all.
    step-unseen g.D.OpSet.is_terminator g.D.OpSet.is_symbol g.D.OpSet.is_symbol_table c.args.ctx.now c.args.self.now all
    (Remove c.args.table c.args.op) (c.are_live.ensures.yes c.if-not-are_live.false) c.in-Err.refused
    c.see_to.new.self (c.in-Err.ensures.seen all)

pub returns-in-Ok-clause-step : goal.returns-in-Ok-clause-step
returns-in-Ok-clause-step g c = λ all.
    step-called g.D.OpSet.is_terminator g.D.OpSet.is_symbol g.D.OpSet.is_symbol_table c.args.ctx.now c.args.self.now all
    (Remove c.args.table c.args.op) (c.are_live.ensures.yes c.if-not-are_live.false) c.see_to.new.self
    c.in_default.ensures.brought (c.in_default.ensures.seen all)
    c.remove_in.new.ctx c.remove_in.new.self (c.in-Ok.ensures.called (c.in_default.ensures.seen all).1)

pub returns-in-Err-remove_in-clause-step : goal.returns-in-Err-remove_in-clause-step
returns-in-Err-remove_in-clause-step g c = λ all.
    step-uncalled g.D.OpSet.is_terminator g.D.OpSet.is_symbol g.D.OpSet.is_symbol_table c.args.ctx.now c.args.self.now
    all (Remove c.args.table c.args.op) (c.are_live.ensures.yes c.if-not-are_live.false) c.see_to.new.self
    c.in_default.ensures.brought (c.in_default.ensures.seen all)
    c.in-Err-remove_in.refused c.remove_in.new.ctx c.remove_in.new.self
    (c.in-Err-remove_in.ensures.called (c.in_default.ensures.seen all).1)

pub returns-in-Ok-clause-given : goal.returns-in-Ok-clause-given
returns-in-Ok-clause-given g c = λ h. c.remove_in.ensures.given (c.see_to.ensures.given h)

pub returns-in-Err-remove_in-clause-given : goal.returns-in-Err-remove_in-clause-given
returns-in-Err-remove_in-clause-given g c = λ h. c.remove_in.ensures.given (c.see_to.ensures.given h)
