use Rattle.plir_passes.proofs.MarkWalk.{marked-again, walked-marked}
use Rattle.plir_passes.proofs.Marking.{grown-first}
use Rattle.plir_passes.proofs.reaching.ops_under.Goals as goal

pub returns-in-Continue : goal.returns-in-Continue
returns-in-Continue g c =
    let grown = walked-marked c.args.ctx.now c.args.root _
    (λ d u p a d' u' h. (h.stays, marked-again p a h.shows.1 h.leaves h.met.1))
    c.stands.ensures.standing.forest _ _ c.in-Continue.is _ _ c.walk_ops.ensures in
    record {
      whole = grown.whole c.new-under.ensures.whole;
      under = grown-first _ _ c.new-under.ensures.none c.new-under.ensures.whole grown;
    }
