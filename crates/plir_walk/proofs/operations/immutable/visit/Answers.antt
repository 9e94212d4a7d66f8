use Rattle.std.proofs.Common.{rules, ◌≡◌, true, sym, subst}
use Rattle.plir_core.specs.declared.ptr.IRNode.TheVariants.{Operation}
use Rattle.plir_walk.specs.CallLaws.{read-back}
use Rattle.plir_walk.specs.Calls.{ReadsBack}
use Rattle.plir_walk.specs.OperationWalks.{AtEachNode}
use Rattle.plir_walk.specs.Step.{IsVisited}
use Rattle.plir_walk.proofs.operations.immutable.visit.Goals as goal

pub returns-in-Operation : goal.returns-in-Operation
returns-in-Operation g c =
    let look = g.C.NodeLinks.look in
    let e = c.args.ctx.now in
    let st = c.args.state.now in
    let post = AtEachNode (ReadsBack g.F.Fn c.args.callback.now) in
    let due : c.args.due ≡ true = search rules in
    subst (λ n. IsVisited look post e st n c.args.due c.callback.result e c.callback.new.arg3)
    (sym c.in-Operation.is)
    (subst (λ d. IsVisited look post e st (Operation c.in-Operation.op) d c.callback.result e c.callback.new.arg3)
    (sym due) (read-back g.F.Fn c.args.callback.now c.callback.ensures, c.forest.ensures))
