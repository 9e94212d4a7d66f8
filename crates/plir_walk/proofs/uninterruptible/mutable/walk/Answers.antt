use Rattle.plir_walk.specs.Calls.{CallsBack}
use Rattle.plir_walk.proofs.Advancing.{ok-advancing, err-advancing, calls-again}
use Rattle.plir_walk.proofs.uninterruptible.mutable.walk.Goals as goal

pub returns-in-Ok : goal.returns-in-Ok
returns-in-Ok g c = ok-advancing g.C.NodeLinks.look c.args.config.now _ (CallsBack g.F.Fn c.args.callback)
    (λ d s n a d' s' p. (p.met.1.0, calls-again g.F.Fn c.args.callback p.shows p.leaves p.met.1.1))
    c.args.ctx.now c.args.state.now c.args.root c.args.limit _ c.walk.new.ctx c.walk.new.state c.in-Ok.ensures

pub returns : goal.returns
returns g c = err-advancing g.C.NodeLinks.look c.args.config.now _ (CallsBack g.F.Fn c.args.callback)
    (λ d s n a d' s' p. (p.met.1.0, calls-again g.F.Fn c.args.callback p.shows p.leaves p.met.1.1))
    c.args.ctx.now c.args.state.now c.args.root c.args.limit _ c.walk.new.ctx c.walk.new.state c.in-Err.ensures

pub walk-requires-clause-lawful : goal.walk-requires-clause-lawful
walk-requires-clause-lawful g c = λ d s n a d' s' p. c.requires.lawful d s n a d' s' (record {
  stands = p.stands;
  leaves = p.leaves;
  made = (p.made.met.1.0, calls-again g.F.Fn c.args.callback p.made.shows p.made.leaves p.made.met.1.1);
})
