use Rattle.std.proofs.Common.{ap}
use Rattle.plir_driver.proofs.transform.transform_text.Goals as goal

pub transform_in-requires : goal.transform_in-requires
transform_in-requires g c = ap (λ z. z.nodes) c.new-ctx.ensures.empty
