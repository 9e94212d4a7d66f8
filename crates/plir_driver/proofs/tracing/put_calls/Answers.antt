use Rattle.plir_driver.proofs.WalkTraced.{call-put-again, walked-calls}
use Rattle.plir_driver.proofs.tracing.put_calls.Goals as goal

pub returns-in-Continue : goal.returns-in-Continue
returns-in-Continue g c =
    walked-calls g.D.OpSet.kind_id c.args.ctx.now c.args.config.now c.args.root _
    (λ d u n a d' u' h. (
      h.stays,
      call-put-again g.D.OpSet.kind_id n a h.shows.0 h.shows.1 h.leaves h.met.1,
    ))
    _ _ c.in-Continue.is _ _ c.walk_op.ensures
