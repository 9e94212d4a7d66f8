use Rattle.plir_walk.specs.Calls.{CallsBack}
use Rattle.plir_walk.specs.OperationWalks.{AtEachNode}
use Rattle.plir_walk.proofs.OperationCalls.{done-again, within-operations, wrapped-lawful}
use Rattle.plir_walk.proofs.operations.mutable.walk_ops.Goals as goal

pub walk-requires-clause-lawful : goal.walk-requires-clause-lawful
walk-requires-clause-lawful g c =
    let post = CallsBack g.F.Fn c.args.callback in
    wrapped-lawful g.C.NodeLinks.look post c.args.root _
    (λ d s n a d' s' p. done-again (AtEachNode post) p.shows p.leaves p.met.1) c.requires.lawful

pub returns : goal.returns
returns g c =
    let post = CallsBack g.F.Fn c.args.callback in
    within-operations g.C.NodeLinks.look post c.args.root _
    (λ d s n a d' s' p. done-again (AtEachNode post) p.shows p.leaves p.met.1)
    c.args.config.now c.args.ctx.now c.args.state.now c.args.limit c.walk.result c.walk.new.ctx c.walk.new.state
    c.walk.ensures
