use Rattle.std.proofs.Common.{IfOk, Some, string_bytes, sym, subst}
use Rattle.plir_pictures.specs.Steps.{Steps}
use Rattle.plir_pictures.proofs.figure.step.Goals as goal

pub returns-in_ok-enter : goal.returns-in_ok-enter
returns-in_ok-enter g c =
    subst (λ z. Steps c.args.ctx.now (g.F.Figure.opens c.args.figure.now c.args.ctx.now)
    (g.F.Figure.closes c.args.figure.now c.args.ctx.now) c.args.root (string_bytes c.args.out.now) (c.args.at.0, z)
    (string_bytes c.enter.new.out) (Some c.in_ok-enter.field-0)) (sym c.if-entering.true)
    (c.in_ok-enter.ensures c.args.root)

pub returns-else-entering : goal.returns-else-entering
returns-else-entering g c =
    subst (λ z. IfOk c.leave.result (Steps c.args.ctx.now (g.F.Figure.opens c.args.figure.now c.args.ctx.now)
    (g.F.Figure.closes c.args.figure.now c.args.ctx.now) c.args.root (string_bytes c.args.out.now) (c.args.at.0, z)
    (string_bytes c.leave.new.out))) (sym c.if-entering.false) c.leave.ensures
