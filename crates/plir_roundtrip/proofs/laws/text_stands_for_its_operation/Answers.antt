use Rattle.plir_roundtrip.proofs.ReadBack.{stands}
use Rattle.plir_roundtrip.proofs.laws.text_stands_for_its_operation.Goals as goal

pub returns : goal.returns
returns g c s p whole readable = stands g.D.OpSet s (c.contexts_stand.ensures s whole) p readable 200 readable.levels
