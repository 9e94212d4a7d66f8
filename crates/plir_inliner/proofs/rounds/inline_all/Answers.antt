use Rattle.std.proofs.Common.{arith, subst}
use Rattle.plir_inliner.specs.Rounds.{IsRoundEnd}
use Rattle.plir_inliner.specs.Steps.{IsCutShort}
use Rattle.plir_copies.specs.RefusalLaws.{passed_on, on_err}
use Rattle.plir_inliner.proofs.Going.{IsGoing, going-agree, going-cut, going-on, going-start}
use Rattle.plir_inliner.proofs.rounds.inline_all.Given.{Over}
use Rattle.plir_inliner.proofs.rounds.inline_all.Goals.{In_ok-inline_round}
use Rattle.plir_inliner.proofs.rounds.inline_all.Goals as goal

-- how far it has come then
went : (g : Over) (c : In_ok-inline_round g)
    → IsGoing g.D.OpSet.is_symbol g.D.OpSet.is_symbol_table g.D.OpSet.attr_handles g.D.CallSet.call g.D.CallSet.returned
    c.args.root c.args.ctx.now c.args.tally.now c.inline_round.new.ctx c.inline_round.new.tally
    c.inline_round.new.tables
went g c =
    let e = c.in_ok-inline_round.ensures in
    going-on c.rounds.invariant e.root_live e.sure e.fits e.part e.sure_still e.whole

pub rounds-init : goal.rounds-init
rounds-init g c =
    going-start c.requires.root_live c.requires.sure c.stands.ensures.whole

pub inline_round-requires-clause-root_live : goal.inline_round-requires-clause-root_live
inline_round-requires-clause-root_live g c = c.rounds.invariant.root_live

pub inline_round-requires-clause-sure : goal.inline_round-requires-clause-sure
inline_round-requires-clause-sure g c = c.rounds.invariant.sure

pub inline_round-requires-clause-fits : goal.inline_round-requires-clause-fits
inline_round-requires-clause-fits g c =
    let a = c.rounds.invariant.fits in
    omega (arith, a, c.requires.fits)

pub rounds-preserved : goal.rounds-preserved
rounds-preserved g c =
    went g (goal.at.rounds-preserved g c).In_ok-inline_round

pub rounds-smaller : goal.rounds-smaller
rounds-smaller g c =
    subst (IsRoundEnd g.D.OpSet.is_symbol g.D.OpSet.is_symbol_table g.D.CallSet.call g.D.CallSet.returned c.args.root
    c.inline_round.new.ctx c.rounds.tally.left c.inline_round.new.tally.left) c.in-Again.is
    c.in_ok-inline_round.ensures.ended

pub returns-in-NoneLeft-clause-none_left : goal.returns-in-NoneLeft-clause-none_left
returns-in-NoneLeft-clause-none_left g c = λ _.
    subst (IsRoundEnd g.D.OpSet.is_symbol g.D.OpSet.is_symbol_table g.D.CallSet.call g.D.CallSet.returned c.args.root
    c.inline_round.new.ctx c.rounds.tally.left c.inline_round.new.tally.left) c.in-NoneLeft.is
    c.in_ok-inline_round.ensures.ended

pub returns-in-OverBudget-clause-over : goal.returns-in-OverBudget-clause-over
returns-in-OverBudget-clause-over g c = λ _.
    subst (IsRoundEnd g.D.OpSet.is_symbol g.D.OpSet.is_symbol_table g.D.CallSet.call g.D.CallSet.returned c.args.root
    c.inline_round.new.ctx c.rounds.tally.left c.inline_round.new.tally.left) c.in-OverBudget.is
    c.in_ok-inline_round.ensures.ended

pub returns-in_err-inline_round-clause-err : goal.returns-in_err-inline_round-clause-err
returns-in_err-inline_round-clause-err g c =
    passed_on (IsCutShort g.D.OpSet.is_symbol g.D.OpSet.is_symbol_table g.D.CallSet.call g.D.CallSet.returned
    c.args.root c.args.ctx.now c.inline_round.new.ctx c.args.tally.now.left) c.from_residual.result
    c.from_residual.ensures.1
    (going-cut c.rounds.invariant c.in_err-inline_round.ensures.err)

pub returns-in_err-inline_round-clause-agree_still : goal.returns-in_err-inline_round-clause-agree_still
returns-in_err-inline_round-clause-agree_still g c =
    on_err c.from_residual.result
    (going-agree c.rounds.invariant c.inline_round.new.ctx c.in_err-inline_round.ensures.agree_still)

pub returns-in-NoneLeft-clause-part : goal.returns-in-NoneLeft-clause-part
returns-in-NoneLeft-clause-part g c = (went g (goal.at.returns-in-NoneLeft-clause-part g c).In_ok-inline_round).part

pub returns-in-NoneLeft-clause-sure_still : goal.returns-in-NoneLeft-clause-sure_still
returns-in-NoneLeft-clause-sure_still g c =
    (went g (goal.at.returns-in-NoneLeft-clause-sure_still g c).In_ok-inline_round).still

pub returns-in-OverBudget-clause-part : goal.returns-in-OverBudget-clause-part
returns-in-OverBudget-clause-part g c = (went g (goal.at.returns-in-OverBudget-clause-part g c).In_ok-inline_round).part

pub returns-in-OverBudget-clause-sure_still : goal.returns-in-OverBudget-clause-sure_still
returns-in-OverBudget-clause-sure_still g c =
    (went g (goal.at.returns-in-OverBudget-clause-sure_still g c).In_ok-inline_round).still
