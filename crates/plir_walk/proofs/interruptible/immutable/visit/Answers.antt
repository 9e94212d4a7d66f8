use Rattle.std.proofs.Common.{rules, ◌≡◌, true, sym, subst}
use Rattle.plir_walk.specs.CallLaws.{read-back}
use Rattle.plir_walk.specs.Calls.{ReadsBack}
use Rattle.plir_walk.specs.Step.{IsVisited}
use Rattle.plir_walk.proofs.interruptible.immutable.visit.Goals as goal

pub returns : goal.returns
returns g c =
    let e = c.args.ctx.now in
    let due : c.args.due ≡ true = search rules in
    subst (λ d. IsVisited g.C.NodeLinks.look (ReadsBack g.F.Fn c.args.callback.now) e c.args.state.now c.args.node d
    c.callback.result e c.callback.new.arg3)
    (sym due) (read-back g.F.Fn c.args.callback.now c.callback.ensures, c.forest.ensures)
