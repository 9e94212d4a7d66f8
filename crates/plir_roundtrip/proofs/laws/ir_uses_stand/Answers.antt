use Rattle.plir_roundtrip.proofs.WithinStands.{within_stands}
use Rattle.plir_roundtrip.proofs.laws.ir_uses_stand.Goals as goal

pub returns : goal.returns
returns g c s p whole live readable = (
  readable.text,
  within_stands g.D.OpSet g.D.ReadSet.find_kind g.D.ReadSet.is_isolated s whole (c.contexts_stand.ensures s whole) p
      live readable.text readable.counted readable.uses,
)
