use Rattle.plir_walk.specs.Calls.{ReadsBack}
use Rattle.plir_walk.proofs.Advancing.{over-advancing, reads-again}
use Rattle.plir_walk.proofs.uninterruptible.immutable.walk.Goals as goal

pub returns : goal.returns
returns g c = over-advancing g.C.NodeLinks.look c.args.config.now _ (ReadsBack g.F.Fn c.args.callback)
    (λ d s n a d' s' p. (p.met.1.0, reads-again g.F.Fn c.args.callback p.stays p.shows p.leaves p.met.1.1))
    c.args.ctx.now c.args.state.now c.args.root c.walk-end.result c.walk-end.new.state c.walk-end.ensures
