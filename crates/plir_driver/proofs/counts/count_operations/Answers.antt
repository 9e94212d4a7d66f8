use Rattle.plir_driver.proofs.Counting.{counted-again, walked-count}
use Rattle.plir_driver.proofs.counts.count_operations.Goals as goal

pub returns : goal.returns
returns g c =
    walked-count c.args.ctx.now c.args.root _
    (λ d u n a d' u' h. (h.0, counted-again n h.1.shows.1 h.1.leaves h.1.met.1)) _ c.walk_op.ensures
