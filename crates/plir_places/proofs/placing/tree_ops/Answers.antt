use Rattle.std.proofs.Common.{ap}
use Rattle.plir_places.proofs.Gathering.{noted-again, walked-live, walked-ops}
use Rattle.plir_places.proofs.placing.tree_ops.Goals as goal

pub returns-in-Continue-clause-ops : goal.returns-in-Continue-clause-ops
returns-in-Continue-clause-ops g c =
    walked-ops c.args.ctx.now (λ v. v.items) c.args.root _
    (λ d u p a d' u' h. (h.stays, noted-again p a (ap (λ v. v.items) h.shows.1) (ap (λ v. v.items) h.leaves) h.met.1))
    _ _ c.in-Continue.is _ _ c.new-ops.ensures.items c.walk_ops.ensures

pub returns-in-Continue-clause-live : goal.returns-in-Continue-clause-live
returns-in-Continue-clause-live g c =
    walked-live c.args.ctx.now (λ v. v.items) c.args.root _
    (λ d u p a d' u' h. (h.stays, noted-again p a (ap (λ v. v.items) h.shows.1) (ap (λ v. v.items) h.leaves) h.met.1))
    _ _ c.in-Continue.is _ _ c.new-ops.ensures.items c.walk_ops.ensures
