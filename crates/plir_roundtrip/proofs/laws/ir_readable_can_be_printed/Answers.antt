use Rattle.std.proofs.Common.{refl}
use Rattle.plir_core.specs.ContextView.{kind_of}
use Rattle.plir_roundtrip.proofs.Headed.{has_its_header}
use Rattle.plir_roundtrip.proofs.laws.ir_readable_can_be_printed.Goals as goal

pub returns : goal.returns
returns g c s p readable q under =
    has_its_header g.D.OpSet g.D.ReadSet.find_kind s q (kind_of s q) refl (readable.nodes.ops q under)
