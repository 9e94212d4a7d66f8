use Rattle.std.proofs.Common.{subst}
use Rattle.plir_core.specs.declared.ptr.IRNode.TheVariants.{Operation}
use Rattle.plir_core.specs.Forest.{look, IsBelow}
use Rattle.plir_folding.specs.Worklists.{AreOf, op_of}
use Rattle.plir_folding.proofs.PassingOn.{below-none, below-then, still-live}
use Rattle.plir_folding.proofs.Worklists.{of-left, of-prepared, of-taken}
use Rattle.plir_folding.proofs.values.pass_on_makers_first.Given.{Over}
use Rattle.plir_folding.proofs.values.pass_on_makers_first.Goals.{In-Some}
use Rattle.plir_folding.proofs.values.pass_on_makers_first.Goals as goal

-- the operation of the step that is taken stands below the root, and so do those of the steps that are left
taken : (g : Over) (c : In-Some g)
    → IsBelow (look c.args.ctx.now) (Operation c.args.root) (Operation (op_of c.in-Some.step))
taken g c =
    of-taken _ c.steps.list c.take.new.self c.in-Some.step c.in-Some.ensures.listed c.in-Some.ensures.waiting
    c.steps.invariant.1

left : (g : Over) (c : In-Some g)
    → AreOf (λ p. IsBelow (look c.args.ctx.now) (Operation c.args.root) (Operation p)) c.take.new.self
left g c =
    of-left _ c.steps.list c.take.new.self c.in-Some.step c.in-Some.ensures.listed c.in-Some.ensures.waiting
    c.steps.invariant.1

pub returns-in_err-list : goal.returns-in_err-list
returns-in_err-list g c =
    below-none g.D.IdentitySet.is_identity g.D.OpSet.attr_handles c.lawful_changes.ensures c.args.ctx.now
    (Operation c.args.root) c.stands.ensures.whole

pub steps-init : goal.steps-init
steps-init g c = (
  below-none g.D.IdentitySet.is_identity g.D.OpSet.attr_handles c.lawful_changes.ensures c.args.ctx.now
      (Operation c.args.root) c.stands.ensures.whole,
  c.in_ok-list.ensures,
)

pub prepare-requires : goal.prepare-requires
prepare-requires g c =
    let below = taken g (goal.at.prepare-requires g c).In-Some in
    still-live g.D.IdentitySet.is_identity g.D.OpSet.attr_handles c.lawful_changes.ensures c.args.ctx.now c.steps.ctx
    (Operation c.args.root) c.in-Prepare.op c.stands.ensures.whole c.steps.invariant.0.passed
    (subst (λ z. IsBelow (look c.args.ctx.now) (Operation c.args.root) (Operation (op_of z))) c.in-Prepare.is below)

pub steps-preserved-in-Continue-branch-2 : goal.steps-preserved-in-Continue-branch-2
steps-preserved-in-Continue-branch-2 g c =
    let rest = left g (goal.at.steps-preserved-in-Continue-branch-2 g c).In-Some in
    (c.steps.invariant.0, of-prepared _ c.take.new.self c.prepare.new.self rest c.in_ok-prepare-in-Prepare.ensures)

pub pass_on-requires : goal.pass_on-requires
pass_on-requires g c =
    let below = taken g (goal.at.pass_on-requires g c).In-Some in
    still-live g.D.IdentitySet.is_identity g.D.OpSet.attr_handles c.lawful_changes.ensures c.args.ctx.now c.steps.ctx
    (Operation c.args.root) c.in-Fold.op c.stands.ensures.whole c.steps.invariant.0.passed
    (subst (λ z. IsBelow (look c.args.ctx.now) (Operation c.args.root) (Operation (op_of z))) c.in-Fold.is below)

pub steps-preserved : goal.steps-preserved
steps-preserved g c = (
  below-then g.D.IdentitySet.is_identity g.D.OpSet.attr_handles c.lawful_changes.ensures c.args.ctx.now c.steps.ctx
      c.pass_on.new.ctx (Operation c.args.root) c.stands.ensures.whole c.steps.invariant.0
      (c.pass_on.ensures.below (Operation c.args.root)),
  left g (goal.at.steps-preserved g c).In-Some,
)
