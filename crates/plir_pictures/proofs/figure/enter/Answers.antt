use Rattle.std.proofs.Common.{string_bytes, sym, ◌∙◌}
use Rattle.plir_pictures.proofs.Stepping.{enters-child, enters-leaf}
use Rattle.plir_pictures.proofs.figure.enter.Goals as goal

pub returns-in-Some : goal.returns-in-Some
returns-in-Some g c = λ root.
    enters-child c.args.ctx.now c.stands.ensures (g.F.Figure.opens c.args.figure.now c.args.ctx.now)
    (g.F.Figure.closes c.args.figure.now c.args.ctx.now) root c.args.node c.in-Some.child
    (string_bytes c.args.out.now) _ (sym c.first_child.ensures ∙ c.in-Some.is) c.in_ok-put_opening.ensures

pub returns-in-None : goal.returns-in-None
returns-in-None g c = λ root.
    enters-leaf c.args.ctx.now c.stands.ensures (g.F.Figure.opens c.args.figure.now c.args.ctx.now)
    (g.F.Figure.closes c.args.figure.now c.args.ctx.now) root c.args.node (string_bytes c.args.out.now) _
    (sym c.first_child.ensures ∙ c.in-None.is) c.in_ok-put_opening.ensures
