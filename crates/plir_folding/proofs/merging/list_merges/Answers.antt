use Rattle.std.proofs.Common.{List, ap}
use Rattle.std.specs.Prelude.{Vec}
use Rattle.std.specs.declared.alloc.Global.{Global}
use Rattle.plir_folding.specs.declared.merging.Merge.{Merge}
use Rattle.plir_folding.proofs.Listing.{scanned-again, walked-merges}
use Rattle.plir_folding.proofs.merging.list_merges.Goals as goal

abbrev items : Vec Merge Global → List Merge
items v = v.items

pub returns-in-Continue : goal.returns-in-Continue
returns-in-Continue g c =
    walked-merges c.args.ctx.now c.stands.ensures.standing.forest c.args.root items _
    (λ d u n a d' u' h. (
      h.stays,
      scanned-again n a h.shows.0 (ap items h.shows.1) (ap items h.leaves) h.met.1,
    )) _ _ c.in-Continue.is _ _ c.new-merges.ensures.items c.walk_op.ensures
