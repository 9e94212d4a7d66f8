use Rattle.std.proofs.Common.{sym, ap, ◌∙◌}
use Rattle.plir_builtin.specs.Symbols.{body}
use Rattle.plir_symbols.proofs.Rounds.{rounds-start, rounds-live, rounds-body, rounds-more, rounds-clean}
use Rattle.plir_symbols.proofs.dead_symbols.sweep_table.Goals as goal

pub rounds-init : goal.rounds-init
rounds-init g c =
    rounds-start
    (c.erasures_thin.ensures.none c.args.ctx.now c.stands.ensures.standing.forest) c.stands.ensures.standing
    c.requires.live (ap (body c.args.ctx.now) (sym c.get_operation.ensures) ∙ c.body_of-block.ensures.body)

pub reached_symbols-requires-clause-live : goal.reached_symbols-requires-clause-live
reached_symbols-requires-clause-live g c = rounds-live c.rounds.invariant

pub reached_symbols-requires-clause-body : goal.reached_symbols-requires-clause-body
reached_symbols-requires-clause-body g c = rounds-body c.rounds.invariant

pub sweep_body-erased-requires-clause-table_live : goal.sweep_body-erased-requires-clause-table_live
sweep_body-erased-requires-clause-table_live g c = rounds-live c.rounds.invariant

pub sweep_body-erased-requires-clause-body : goal.sweep_body-erased-requires-clause-body
sweep_body-erased-requires-clause-body g c = rounds-body c.rounds.invariant

pub sweep_body-erased-requires-clause-may_go : goal.sweep_body-erased-requires-clause-may_go
sweep_body-erased-requires-clause-may_go g c = c.in_ok-reached.ensures.kept

pub rounds-preserved : goal.rounds-preserved
rounds-preserved g c =
    rounds-more c.rounds.invariant c.erasures_thin.ensures
    (record { kept = c.in_ok-reached.ensures.kept; exact = c.in_ok-reached.ensures.exact })
    c.sweep_body-erased.ensures

pub rounds-smaller : goal.rounds-smaller
rounds-smaller g c = c.sweep_body-erased.ensures.set c.if-not-erased.false

pub returns-in_err-reached-clause-body : goal.returns-in_err-reached-clause-body
returns-in_err-reached-clause-body g c =
    c.rounds.invariant.at_body
    ∙ sym (ap (body c.args.ctx.now) (sym c.get_operation.ensures) ∙ c.body_of-block.ensures.body)

pub returns-then-not-erased-clause-swept : goal.returns-then-not-erased-clause-swept
returns-then-not-erased-clause-swept g c =
    (rounds-more c.rounds.invariant c.erasures_thin.ensures
    (record { kept = c.in_ok-reached.ensures.kept; exact = c.in_ok-reached.ensures.exact })
    c.sweep_body-erased.ensures).swept

pub returns-then-not-erased-clause-sweeps : goal.returns-then-not-erased-clause-sweeps
returns-then-not-erased-clause-sweeps g c =
    (rounds-more c.rounds.invariant c.erasures_thin.ensures
    (record { kept = c.in_ok-reached.ensures.kept; exact = c.in_ok-reached.ensures.exact })
    c.sweep_body-erased.ensures).sweeps

pub returns-then-not-erased-clause-kept : goal.returns-then-not-erased-clause-kept
returns-then-not-erased-clause-kept g c =
    (rounds-more c.rounds.invariant c.erasures_thin.ensures
    (record { kept = c.in_ok-reached.ensures.kept; exact = c.in_ok-reached.ensures.exact })
    c.sweep_body-erased.ensures).kept

pub returns-then-not-erased-clause-body : goal.returns-then-not-erased-clause-body
returns-then-not-erased-clause-body g c =
    (rounds-more c.rounds.invariant c.erasures_thin.ensures
    (record { kept = c.in_ok-reached.ensures.kept; exact = c.in_ok-reached.ensures.exact })
    c.sweep_body-erased.ensures).at_body
    ∙ sym (ap (body c.args.ctx.now) (sym c.get_operation.ensures) ∙ c.body_of-block.ensures.body)

pub returns-then-not-erased-clause-live : goal.returns-then-not-erased-clause-live
returns-then-not-erased-clause-live g c =
    (rounds-more c.rounds.invariant c.erasures_thin.ensures
    (record { kept = c.in_ok-reached.ensures.kept; exact = c.in_ok-reached.ensures.exact })
    c.sweep_body-erased.ensures).live

pub returns-then-not-erased-clause-clean : goal.returns-then-not-erased-clause-clean
returns-then-not-erased-clause-clean g c =
    rounds-clean c.rounds.invariant c.erasures_thin.ensures
    (record { kept = c.in_ok-reached.ensures.kept; exact = c.in_ok-reached.ensures.exact })
    c.sweep_body-erased.ensures c.if-not-erased.true
