use Rattle.std.proofs.Common.{ap, string_bytes}
use Rattle.plir_driver.specs.OpLocations.{IsLocationLine}
use Rattle.plir_driver.proofs.NodesPut.{node-put-again, walked-nodes}
use Rattle.plir_driver.proofs.locating.put_lines.Goals as goal

pub returns-in-Continue : goal.returns-in-Continue
returns-in-Continue g c =
    walked-nodes (IsLocationLine g.D.OpSet.kind_id) c.args.ctx.now string_bytes c.args.root _
    (λ d u n a d' u' h. (
      h.stays,
      node-put-again (IsLocationLine g.D.OpSet.kind_id) n a h.shows.0 (ap string_bytes h.shows.1)
          (ap string_bytes h.leaves) h.met.1,
    ))
    _ _ c.in-Continue.is _ _ c.walk_op.ensures
