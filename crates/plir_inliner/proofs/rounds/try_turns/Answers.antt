use Rattle.std.proofs.Common.{arith}
use Rattle.plir_inliner.specs.Steps.{IsCutShort}
use Rattle.plir_copies.specs.RefusalLaws.{passed_on, on_err}
use Rattle.plir_inliner.proofs.Going.{IsGoing, going-agree, going-cut, going-on, going-start}
use Rattle.plir_inliner.proofs.rounds.try_turns.Given.{Over}
use Rattle.plir_inliner.proofs.rounds.try_turns.Goals.{In_ok-try_turn}
use Rattle.plir_inliner.proofs.rounds.try_turns.Goals as goal

-- how far it has come then
went : (g : Over) (c : In_ok-try_turn g)
    → IsGoing g.D.OpSet.is_symbol g.D.OpSet.is_symbol_table g.D.OpSet.attr_handles g.D.CallSet.call g.D.CallSet.returned
    c.args.root c.args.ctx.now c.args.tally.now c.try_turn.new.ctx c.try_turn.new.tally c.try_turn.new.tables
went g c =
    let e = c.in_ok-try_turn.ensures in
    going-on c.loop-turn.invariant e.root_live e.sure e.fits e.part e.sure_still e.whole

pub loop-turn-init : goal.loop-turn-init
loop-turn-init g c =
    going-start c.requires.root_live c.requires.sure c.stands.ensures.whole

pub try_turn-requires-clause-root_live : goal.try_turn-requires-clause-root_live
try_turn-requires-clause-root_live g c = c.loop-turn.invariant.root_live

pub try_turn-requires-clause-sure : goal.try_turn-requires-clause-sure
try_turn-requires-clause-sure g c = c.loop-turn.invariant.sure

pub try_turn-requires-clause-fits : goal.try_turn-requires-clause-fits
try_turn-requires-clause-fits g c =
    let a = c.loop-turn.invariant.fits in
    omega (arith, a, c.requires.fits)

pub loop-turn-preserved : goal.loop-turn-preserved
loop-turn-preserved g c =
    went g (goal.at.loop-turn-preserved g c).In_ok-try_turn

pub returns-in_err-try_turn-clause-err : goal.returns-in_err-try_turn-clause-err
returns-in_err-try_turn-clause-err g c =
    passed_on (IsCutShort g.D.OpSet.is_symbol g.D.OpSet.is_symbol_table g.D.CallSet.call g.D.CallSet.returned
    c.args.root c.args.ctx.now c.try_turn.new.ctx c.args.tally.now.left) c.from_residual.result
    c.from_residual.ensures.1
    (going-cut c.loop-turn.invariant c.in_err-try_turn.ensures.err)

pub returns-in_err-try_turn-clause-agree_still : goal.returns-in_err-try_turn-clause-agree_still
returns-in_err-try_turn-clause-agree_still g c =
    on_err c.from_residual.result
    (going-agree c.loop-turn.invariant c.try_turn.new.ctx c.in_err-try_turn.ensures.agree_still)

pub returns-then-branch-clause-part : goal.returns-then-branch-clause-part
returns-then-branch-clause-part g c = (went g (goal.at.returns-then-branch-clause-part g c).In_ok-try_turn).part

pub returns-then-branch-clause-sure_still : goal.returns-then-branch-clause-sure_still
returns-then-branch-clause-sure_still g c =
    (went g (goal.at.returns-then-branch-clause-sure_still g c).In_ok-try_turn).still
