use Rattle.std.proofs.Common.{arith, refl, sym, ◌∙◌}
use Rattle.plir_core.specs.declared.ptr.IRNode.TheVariants.{Operation}
use Rattle.plir_folding.specs.PassedOn.{IsPassedBelow}
use Rattle.plir_folding.proofs.PassingOn.{below-none, below-then}
use Rattle.plir_folding.proofs.Below.{below-live}
use Rattle.plir_folding.proofs.Used.{fewer-used, no-more-used}
use Rattle.plir_folding.proofs.values.fold_values.Given.{Over}
use Rattle.plir_folding.proofs.values.fold_values.Goals.{After-pass_on_makers_first}
use Rattle.plir_folding.proofs.values.fold_values.Goals as goal

-- what has been passed on, by one round more
passed : (g : Over) (c : After-pass_on_makers_first g)
    → IsPassedBelow g.D.IdentitySet.is_identity g.D.OpSet.attr_handles c.args.ctx.now (Operation c.args.root)
    c.pass_on_makers_first.new.ctx
passed g c =
    let then = below-then g.D.IdentitySet.is_identity g.D.OpSet.attr_handles c.lawful_changes.ensures c.args.ctx.now in
    let r = Operation c.args.root in
    let whole = c.stands.ensures.whole in
    then c.pass_on.new.ctx c.pass_on_makers_first.new.ctx r whole
    (then c.left.ctx c.pass_on.new.ctx r whole c.left.invariant.0 (c.pass_on.ensures.below r))
    c.pass_on_makers_first.ensures

pub left-init : goal.left-init
left-init g c = (
  below-none g.D.IdentitySet.is_identity g.D.OpSet.attr_handles c.lawful_changes.ensures c.args.ctx.now
      (Operation c.args.root) c.stands.ensures.whole,
  c.requires,
  λ none. refl,
)

pub next_left-requires : goal.next_left-requires
next_left-requires g c = c.left.invariant.1

pub pass_on-requires : goal.pass_on-requires
pass_on-requires g c =
    below-live c.left.ctx (Operation c.args.root) (Operation c.in-Some.op) c.in-Some.ensures.below
    (c.lawful_changes.ensures.forest c.left.ctx c.left.invariant.0.whole)

pub pass_on_makers_first-requires : goal.pass_on_makers_first-requires
pass_on_makers_first-requires g c =
    let f = c.pass_on.ensures.below (Operation c.args.root) in
    f.passed.keeps.live (Operation c.args.root) ∙ c.left.invariant.1

pub left-preserved : goal.left-preserved
left-preserved g c =
    let all = passed g (goal.at.left-preserved g c).After-pass_on_makers_first in
    (all, all.passed.keeps.live (Operation c.args.root) ∙ c.requires, λ none. absurd (let z : ⊥ = cc none in z))

pub left-smaller : goal.left-smaller
left-smaller g c =
    let s = c.args.ctx.now in
    let here = c.left.ctx in
    let t = c.pass_on.new.ctx in
    let u = c.pass_on_makers_first.new.ctx in
    let op = c.in-Some.op in
    let f = c.pass_on.ensures.below (Operation c.args.root) in
    let forest = c.lawful_changes.ensures.forest here c.left.invariant.0.whole in
    let live = below-live here (Operation c.args.root) (Operation op) c.in-Some.ensures.below forest in
    let left = c.in-Some.ensures.left in
    let first =
    fewer-used s here t f.passed.used op (sym (c.left.invariant.0.passed.keeps.live (Operation op)) ∙ live)
    c.index_is_slot_and_one.ensures (forest.live_given (Operation op) live) left.1.used
    (c.pass_on.ensures.gone left.0 left.1) in
    let rest = no-more-used s t u c.in_ok-pass_on_makers_first.ensures.passed.used in
    omega (arith, first, rest)

pub returns-clause-unchanged : goal.returns-clause-unchanged
returns-clause-unchanged g c = c.left.invariant.2

pub returns-clause-settled : goal.returns-clause-settled
returns-clause-settled g c = c.in_default.ensures.none refl

pub returns-clause-passed : goal.returns-clause-passed
returns-clause-passed g c = c.left.invariant.0.passed

pub returns-clause-lawful : goal.returns-clause-lawful
returns-clause-lawful g c = c.left.invariant.0.lawful

pub returns-clause-whole : goal.returns-clause-whole
returns-clause-whole g c = c.left.invariant.0.whole

pub returns-in_err-pass_on_makers_first-clause-passed : goal.returns-in_err-pass_on_makers_first-clause-passed
returns-in_err-pass_on_makers_first-clause-passed g c =
    (passed g (goal.at.returns-in_err-pass_on_makers_first-clause-passed g c).After-pass_on_makers_first).passed

pub returns-in_err-pass_on_makers_first-clause-lawful : goal.returns-in_err-pass_on_makers_first-clause-lawful
returns-in_err-pass_on_makers_first-clause-lawful g c =
    (passed g (goal.at.returns-in_err-pass_on_makers_first-clause-lawful g c).After-pass_on_makers_first).lawful
