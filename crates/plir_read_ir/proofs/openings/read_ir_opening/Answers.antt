use Rattle.std.proofs.Common.{refl}
use Rattle.plir_attr_text.specs.laws.TypeSteps.{behind_is}
use Rattle.plir_read_ir.proofs.Begun.{opening_is}
use Rattle.plir_read_ir.proofs.openings.read_ir_opening.Goals as goal

pub returns : goal.returns
returns g c =
    let y = c.in_ok-names.ensures in (
      ((y.0.0, c.in_ok-kind.kind), c.in_ok-kind.behind.now),
      opening_is g.D.ReadSet.find_kind _ _ _ y.0.0 c.in_ok-kind.kind
          (behind_is _ y.0 c.in_ok-names.rest.now y.1 y.2.1) c.in_ok-kind.ensures,
      (record { names = y.2.0; kind = refl }, refl),
    )
