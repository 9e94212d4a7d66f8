use Rattle.std.proofs.Common.{arith, inl, inr}
use Rattle.plir_core.specs.declared.ptr.IRNode.TheVariants.{Operation}
use Rattle.plir_folding.specs.Folding.{IsFoldedBelow}
use Rattle.plir_folding.proofs.Below.{below-then}
use Rattle.plir_folding.proofs.Room.{less-room, no-more-room}
use Rattle.plir_folding.proofs.folding.fold_constants.Given.{Over}
use Rattle.plir_folding.proofs.folding.fold_constants.Goals.{After-fold_round-in-rounds, After-fold_makers_first}
use Rattle.plir_folding.proofs.folding.fold_constants.Goals as goal

-- what rounds have folded, one more among them
after-round : (g : Over) (c : After-fold_round-in-rounds g)
    → IsFoldedBelow g.D.FoldSet.fold g.D.OpSet.attr_handles c.args.ctx.now (Operation c.args.root)
    c.fold_round-in-rounds.new.ctx
after-round g c =
    below-then g.D.FoldSet.fold g.D.OpSet.attr_handles c.lawful_changes.ensures c.args.ctx.now c.rounds.ctx
    c.fold_round-in-rounds.new.ctx (Operation c.args.root) c.stands.ensures.whole c.rounds.invariant.0
    c.fold_round-in-rounds.ensures.below

-- and then the operations that are listed
after-makers : (g : Over) (c : After-fold_makers_first g)
    → IsFoldedBelow g.D.FoldSet.fold g.D.OpSet.attr_handles c.args.ctx.now (Operation c.args.root)
    c.fold_round-in-rounds.new.ctx
    → IsFoldedBelow g.D.FoldSet.fold g.D.OpSet.attr_handles c.args.ctx.now (Operation c.args.root)
    c.fold_makers_first.new.ctx
after-makers g c first =
    below-then g.D.FoldSet.fold g.D.OpSet.attr_handles c.lawful_changes.ensures c.args.ctx.now
    c.fold_round-in-rounds.new.ctx c.fold_makers_first.new.ctx (Operation c.args.root) c.stands.ensures.whole first
    c.fold_makers_first.ensures.below

pub returns-in_err-found-clause-folded : goal.returns-in_err-found-clause-folded
returns-in_err-found-clause-folded g c = c.in_err-found.ensures.below.folded

pub returns-in_err-found-clause-lawful : goal.returns-in_err-found-clause-lawful
returns-in_err-found-clause-lawful g c = c.in_err-found.ensures.below.lawful

pub returns-in_err-found-clause-whole : goal.returns-in_err-found-clause-whole
returns-in_err-found-clause-whole g c = c.in_err-found.ensures.below.whole

pub returns-then-not-found-clause-unchanged : goal.returns-then-not-found-clause-unchanged
returns-then-not-found-clause-unchanged g c = λ none. (c.in_ok-found.ensures.told.tells.clear c.if-not-found.true).1

pub returns-then-not-found-clause-settled : goal.returns-then-not-found-clause-settled
returns-then-not-found-clause-settled g c = c.in_ok-found.ensures.told.settled c.if-not-found.true

pub returns-then-not-found-clause-folded : goal.returns-then-not-found-clause-folded
returns-then-not-found-clause-folded g c = c.in_ok-found.ensures.below.folded

pub returns-then-not-found-clause-lawful : goal.returns-then-not-found-clause-lawful
returns-then-not-found-clause-lawful g c = c.in_ok-found.ensures.below.lawful

pub returns-then-not-found-clause-whole : goal.returns-then-not-found-clause-whole
returns-then-not-found-clause-whole g c = c.in_ok-found.ensures.below.whole

pub rounds-init : goal.rounds-init
rounds-init g c =
    let f = c.in_ok-found.ensures.below in (
      f,
      c.lawful_changes.ensures.stays c.args.ctx.now c.fold_round.new.ctx (Operation c.args.root)
          c.stands.ensures.standing.forest f.lawful c.requires,
    )

pub fold_round-requires-in-rounds : goal.fold_round-requires-in-rounds
fold_round-requires-in-rounds g c = c.rounds.invariant.1

pub fold_makers_first-requires : goal.fold_makers_first-requires
fold_makers_first-requires g c =
    let laws = c.lawful_changes.ensures in
    laws.stays c.rounds.ctx c.fold_round-in-rounds.new.ctx (Operation c.args.root)
    (laws.forest c.rounds.ctx c.rounds.invariant.0.whole) c.in_ok-changed.ensures.below.lawful c.rounds.invariant.1

pub rounds-preserved : goal.rounds-preserved
rounds-preserved g c =
    let at = goal.at.rounds-preserved g c in
    let h = after-makers g at.After-fold_makers_first (after-round g at.After-fold_round-in-rounds) in (
      h,
      c.lawful_changes.ensures.stays c.args.ctx.now c.fold_makers_first.new.ctx (Operation c.args.root)
          c.stands.ensures.standing.forest h.lawful c.requires,
    )

pub rounds-smaller : goal.rounds-smaller
rounds-smaller g c =
    let laws = c.lawful_changes.ensures in
    let f = c.in_ok-changed.ensures.below in
    let t = c.fold_round-in-rounds.new.ctx in
    elim (c.in_ok-changed.ensures.told.tells.set c.if-not-changed.false) [
      | inl h ↦ absurd (let z : ⊥ = cc h in z)
      | inr h ↦
          let first =
          less-room g.D.FoldSet.fold c.rounds.ctx t f.folded h.0 h.1.0 h.1.1 c.index_is_slot_and_one.ensures
          ((laws.forest t f.whole).live_given (Operation h.0) h.1.1.live) in
          let rest =
          no-more-room g.D.FoldSet.fold t c.fold_makers_first.new.ctx
          c.in_ok-fold_makers_first.ensures.below.folded in
          omega (arith, first, rest)
    ]

pub returns-then-not-changed-clause-settled : goal.returns-then-not-changed-clause-settled
returns-then-not-changed-clause-settled g c = c.in_ok-changed.ensures.told.settled c.if-not-changed.true

pub returns-then-not-changed-clause-folded : goal.returns-then-not-changed-clause-folded
returns-then-not-changed-clause-folded g c =
    (after-round g (goal.at.returns-then-not-changed-clause-folded g c).After-fold_round-in-rounds).folded

pub returns-then-not-changed-clause-lawful : goal.returns-then-not-changed-clause-lawful
returns-then-not-changed-clause-lawful g c =
    (after-round g (goal.at.returns-then-not-changed-clause-lawful g c).After-fold_round-in-rounds).lawful

pub returns-then-not-changed-clause-whole : goal.returns-then-not-changed-clause-whole
returns-then-not-changed-clause-whole g c = c.in_ok-changed.ensures.below.whole

pub returns-in_err-changed-clause-folded : goal.returns-in_err-changed-clause-folded
returns-in_err-changed-clause-folded g c =
    (after-round g (goal.at.returns-in_err-changed-clause-folded g c).After-fold_round-in-rounds).folded

pub returns-in_err-changed-clause-lawful : goal.returns-in_err-changed-clause-lawful
returns-in_err-changed-clause-lawful g c =
    (after-round g (goal.at.returns-in_err-changed-clause-lawful g c).After-fold_round-in-rounds).lawful

pub returns-in_err-changed-clause-whole : goal.returns-in_err-changed-clause-whole
returns-in_err-changed-clause-whole g c = c.in_err-changed.ensures.below.whole

pub returns-in_err-fold_makers_first-clause-folded : goal.returns-in_err-fold_makers_first-clause-folded
returns-in_err-fold_makers_first-clause-folded g c =
    let at = goal.at.returns-in_err-fold_makers_first-clause-folded g c in
    (after-makers g at.After-fold_makers_first (after-round g at.After-fold_round-in-rounds)).folded

pub returns-in_err-fold_makers_first-clause-lawful : goal.returns-in_err-fold_makers_first-clause-lawful
returns-in_err-fold_makers_first-clause-lawful g c =
    let at = goal.at.returns-in_err-fold_makers_first-clause-lawful g c in
    (after-makers g at.After-fold_makers_first (after-round g at.After-fold_round-in-rounds)).lawful

pub returns-in_err-fold_makers_first-clause-whole : goal.returns-in_err-fold_makers_first-clause-whole
returns-in_err-fold_makers_first-clause-whole g c = c.in_err-fold_makers_first.ensures.below.whole
