use Rattle.std.proofs.Common.{◌++◌, string_bytes, subst}
use Rattle.plir_core.specs.declared.ptr.IRNode.TheVariants.{Operation}
use Rattle.plir_print.specs.OpText.{op_text}
use Rattle.plir_print.specs.Steps.{Steps}
use Rattle.plir_print.proofs.Stepping.{at-live, at-printable, at-fits, begins, falls, fits-whole}
use Rattle.plir_print.proofs.ops.put_op.Goals as goal

pub steps-init : goal.steps-init
steps-init g c = begins g.D.OpSet c.args.ctx.now c.stands.ensures (Operation c.args.op) (string_bytes c.args.out.now)

pub step-requires-clause-live : goal.step-requires-clause-live
step-requires-clause-live g c =
    at-live g.D.OpSet c.args.ctx.now c.stands.ensures (Operation c.args.op) _ _ c.steps.at c.steps.invariant
    c.requires.live

pub step-requires-clause-printable : goal.step-requires-clause-printable
step-requires-clause-printable g c =
    at-printable g.D.OpSet c.args.ctx.now c.stands.ensures (Operation c.args.op) _ _ c.steps.at c.steps.invariant
    c.requires.printable

pub step-requires-clause-fits : goal.step-requires-clause-fits
step-requires-clause-fits g c =
    at-fits g.D.OpSet c.args.ctx.now c.stands.ensures (Operation c.args.op) _ _ c.steps.at c.steps.invariant

pub steps-preserved : goal.steps-preserved
steps-preserved g c =
    let goes =
    subst (Steps g.D.OpSet c.args.ctx.now (Operation c.args.op) (string_bytes c.steps.out) c.steps.at
    (string_bytes c.step.new.out)) c.in-Some.is c.in_ok-next.ensures in
    goes.0 _ c.steps.invariant

pub steps-smaller : goal.steps-smaller
steps-smaller g c =
    let st = c.stands.ensures in
    let whole = string_bytes c.args.out.now ++ op_text g.D.OpSet c.args.ctx.now c.args.op in
    let old = string_bytes c.steps.out in
    let new = string_bytes c.step.new.out in
    let goes =
    subst (Steps g.D.OpSet c.args.ctx.now (Operation c.args.op) old c.steps.at new) c.in-Some.is
    c.in_ok-next.ensures in
    falls c.args.ctx.now st whole old new c.steps.at c.in-Some.next
    (fits-whole g.D.OpSet c.args.ctx.now st (Operation c.args.op) whole new c.in-Some.next
    (goes.0 whole c.steps.invariant)) goes.1

pub returns-in-None : goal.returns-in-None
returns-in-None g c =
    let ends =
    subst (Steps g.D.OpSet c.args.ctx.now (Operation c.args.op) (string_bytes c.steps.out) c.steps.at
    (string_bytes c.step.new.out)) c.in-None.is c.in_ok-next.ensures in
    ends _ c.steps.invariant
