use Rattle.std.proofs.Common.{◌≡◌, string_bytes, rules}
use Rattle.plir_pictures.proofs.Stepping.{leaves-root}
use Rattle.plir_pictures.proofs.figure.leave.Goals as goal

pub returns-then-eq : goal.returns-then-eq
returns-then-eq g c =
    let at_root : c.args.node ≡ c.args.root = search rules in
    leaves-root c.args.ctx.now c.stands.ensures (g.F.Figure.opens c.args.figure.now c.args.ctx.now)
    (g.F.Figure.closes c.args.figure.now c.args.ctx.now) c.args.root c.args.node (string_bytes c.args.out.now) _
    c.in_ok-put_closing.ensures at_root

pub returns-else-eq : goal.returns-else-eq
returns-else-eq g c =
    let below : c.args.node ≡ c.args.root → ⊥ = search rules in
    c.go_on.ensures (g.F.Figure.opens c.args.figure.now c.args.ctx.now)
    (g.F.Figure.closes c.args.figure.now c.args.ctx.now) c.args.root (string_bytes c.args.out.now) _ below
    c.in_ok-put_closing.ensures
