use Rattle.std.proofs.Common.{ap}
use Rattle.plir_data.specs.AttrView as views
use Rattle.plir_attr_text.specs.Terms as terms
use Rattle.plir_attr_text.specs.Steps.{read_as}
use Rattle.plir_attr_text.proofs.attrs.read_type_attr.Goals as goal

pub returns-in-Ok-clause-read : goal.returns-in-Ok-clause-read
returns-in-Ok-clause-read g c =
    let y = c.in-Ok.ensures.read in (
      (terms.type y.0.0, y.0.1),
      ap (read_as terms.type) y.1,
      ((c.in-Ok.read.0, y.2.0, ap (λ h. views.leaf (views.type_of h)) c.new.ensures), y.2.1),
    )
