use Rattle.plir_builtin.specs.declared.symbol_edits.SymbolEdit.TheVariants.{Erase}
use Rattle.std.proofs.Common.{◌∙◌, true≢false, sym}
use Rattle.plir_builtin.specs.declared.symbol_edits.SymbolEditErr.TheVariants.{StillUsed}
use Rattle.plir_builtin.proofs.EditSteps.{step-dead, step-unseen, seen-good, step-refused, step-foreseen, step-uncalled}
use Rattle.plir_builtin.proofs.EditSteps.{step-called}
use Rattle.plir_builtin.proofs.collection.SymbolTableCollection.apply_erase.Goals as goal

pub returns-then-not-are_live-clause-step : goal.returns-then-not-are_live-clause-step
returns-then-not-are_live-clause-step g c =
    λ all. step-dead g.D.OpSet.is_terminator g.D.OpSet.is_symbol g.D.OpSet.is_symbol_table c.args.ctx.now
    c.args.self.now all (Erase c.args.table c.args.op) (λ h. c.are_live.ensures.no c.if-not-are_live.true h.0 h.1)

pub returns-in-Err-clause-step : goal.returns-in-Err-clause-step
returns-in-Err-clause-step g c = λ all.
    step-unseen g.D.OpSet.is_terminator g.D.OpSet.is_symbol g.D.OpSet.is_symbol_table c.args.ctx.now c.args.self.now all
    (Erase c.args.table c.args.op) (c.are_live.ensures.yes c.if-not-are_live.false) c.in-Err.refused
    c.see_to.new.self (c.in-Err.ensures.seen all)

pub returns-in-Err-is_member-clause-step : goal.returns-in-Err-is_member-clause-step
returns-in-Err-is_member-clause-step g c = λ all.
    step-foreseen g.D.OpSet.is_terminator g.D.OpSet.is_symbol g.D.OpSet.is_symbol_table c.args.ctx.now c.args.self.now
    all (Erase c.args.table c.args.op) (c.are_live.ensures.yes c.if-not-are_live.false) c.see_to.new.self
    c.in_default.ensures.brought (c.in_default.ensures.seen all)
    c.in-Err-is_member.refused c.in-Err-is_member.ensures.refused

pub returns-then-not-is_unused_outside-clause-step : goal.returns-then-not-is_unused_outside-clause-step
returns-then-not-is_unused_outside-clause-step g c = λ all.
    let live = (c.are_live.ensures.yes c.if-not-are_live.false) in
    step-refused g.D.OpSet.is_terminator g.D.OpSet.is_symbol g.D.OpSet.is_symbol_table c.args.ctx.now c.args.self.now
    all (Erase c.args.table c.args.op) live c.see_to.new.self c.in_default.ensures.brought
    (c.in_default.ensures.seen all)
    StillUsed (
      live,
      seen-good g.D.OpSet.is_terminator g.D.OpSet.is_symbol g.D.OpSet.is_symbol_table c.args.ctx.now c.args.self.now all
          (Erase c.args.table c.args.op) live c.see_to.new.self c.in_default.ensures.brought
          (c.in_default.ensures.seen all),
      (
        (c.in_default-is_member.ensures.named, c.in_default-is_member.ensures.member),
        (λ unused. true≢false (sym (c.is_unused_outside.ensures.value.1 unused) ∙ c.if-not-is_unused_outside.true)),
      ),
    )

pub returns-in-Ok-clause-step : goal.returns-in-Ok-clause-step
returns-in-Ok-clause-step g c = λ all.
    step-called g.D.OpSet.is_terminator g.D.OpSet.is_symbol g.D.OpSet.is_symbol_table c.args.ctx.now c.args.self.now all
    (Erase c.args.table c.args.op) (c.are_live.ensures.yes c.if-not-are_live.false) c.see_to.new.self
    c.in_default.ensures.brought (c.in_default.ensures.seen all)
    c.erase_in.new.ctx c.erase_in.new.self (c.in-Ok.ensures.called (c.in_default.ensures.seen all).1)

pub returns-in-Err-erase_in-clause-step : goal.returns-in-Err-erase_in-clause-step
returns-in-Err-erase_in-clause-step g c = λ all.
    step-uncalled g.D.OpSet.is_terminator g.D.OpSet.is_symbol g.D.OpSet.is_symbol_table c.args.ctx.now c.args.self.now
    all (Erase c.args.table c.args.op) (c.are_live.ensures.yes c.if-not-are_live.false) c.see_to.new.self
    c.in_default.ensures.brought (c.in_default.ensures.seen all)
    c.in-Err-erase_in.refused c.erase_in.new.ctx c.erase_in.new.self
    (c.in-Err-erase_in.ensures.called (c.in_default.ensures.seen all).1)

pub returns-in-Ok-clause-given : goal.returns-in-Ok-clause-given
returns-in-Ok-clause-given g c = λ h. c.erase_in.ensures.given (c.see_to.ensures.given h)

pub returns-in-Err-erase_in-clause-given : goal.returns-in-Err-erase_in-clause-given
returns-in-Err-erase_in-clause-given g c = λ h. c.erase_in.ensures.given (c.see_to.ensures.given h)

pub erase_in-requires-clause-unused : goal.erase_in-requires-clause-unused
erase_in-requires-clause-unused g c = c.is_unused_outside.ensures.value.0 c.if-not-is_unused_outside.false
