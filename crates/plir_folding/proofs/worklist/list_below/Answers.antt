use Rattle.plir_folding.proofs.ListWalk.{listed-again, walked-below}
use Rattle.plir_folding.proofs.Worklists.{of-none}
use Rattle.plir_folding.proofs.worklist.list_below.Goals as goal

pub returns-in-Continue : goal.returns-in-Continue
returns-in-Continue g c =
    walked-below c.args.ctx.now c.args.root _
    (λ d u p a d' u' h. (h.stays, listed-again c.args.root p a h.shows.1 h.leaves h.met.1)) _ _ _ c.in-Continue.is _ _
    c.walk_ops.ensures (of-none _ _ c.new-list.ensures.listed c.new-list.ensures.waiting)
