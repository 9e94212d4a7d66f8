use Rattle.std.proofs.Common.{◌≡◌, true, inr}
use Rattle.plir_roundtrip.proofs.readable.look_at.Goals as goal

pub returns-else-is_node_readable : goal.returns-else-is_node_readable
returns-else-is_node_readable g c =
    inr (
      tt,
      λ r. let yes : c.is_node_readable.result ≡ true = c.is_node_readable.ensures.1 r in let f : ⊥ = cc in f,
      c.walk_break.ensures,
    )
