use Rattle.std.proofs.Common.{string_bytes, subst}
use Rattle.plir_core.specs.declared.ptr.IRNode.TheVariants.{Operation}
use Rattle.plir_pictures.specs.Steps.{Steps}
use Rattle.plir_pictures.proofs.Stepping.{at-live, begins}
use Rattle.plir_pictures.proofs.figure.put_nested.Goals as goal

pub steps-init : goal.steps-init
steps-init g c =
    begins c.args.ctx.now c.stands.ensures (g.F.Figure.opens c.args.figure.now c.args.ctx.now)
    (g.F.Figure.closes c.args.figure.now c.args.ctx.now) (Operation c.args.op) (string_bytes c.args.out.now)

pub step-requires : goal.step-requires
step-requires g c =
    at-live c.args.ctx.now c.stands.ensures (g.F.Figure.opens c.args.figure.now c.args.ctx.now)
    (g.F.Figure.closes c.args.figure.now c.args.ctx.now) (Operation c.args.op) _ _ c.steps.at c.steps.invariant
    c.requires

pub steps-preserved : goal.steps-preserved
steps-preserved g c =
    let goes =
    subst (Steps c.args.ctx.now (g.F.Figure.opens c.args.figure.now c.args.ctx.now)
    (g.F.Figure.closes c.args.figure.now c.args.ctx.now) (Operation c.args.op) (string_bytes c.steps.out) c.steps.at
    (string_bytes c.step.new.out)) c.in-Some.is c.in_ok-next.ensures in
    goes.0 _ c.steps.invariant

pub steps-smaller : goal.steps-smaller
steps-smaller g c =
    let goes =
    subst (Steps c.args.ctx.now (g.F.Figure.opens c.args.figure.now c.args.ctx.now)
    (g.F.Figure.closes c.args.figure.now c.args.ctx.now) (Operation c.args.op) (string_bytes c.steps.out) c.steps.at
    (string_bytes c.step.new.out)) c.in-Some.is c.in_ok-next.ensures in
    goes.1

pub returns-in-None : goal.returns-in-None
returns-in-None g c =
    let ends =
    subst (Steps c.args.ctx.now (g.F.Figure.opens c.args.figure.now c.args.ctx.now)
    (g.F.Figure.closes c.args.figure.now c.args.ctx.now) (Operation c.args.op) (string_bytes c.steps.out) c.steps.at
    (string_bytes c.step.new.out)) c.in-None.is c.in_ok-next.ensures in
    ends _ c.steps.invariant
