use Rattle.std.proofs.Common.{◌∙◌, ap, sym, is_some}
use Rattle.plir_builtin.proofs.Soles.{mapped_some}
use Rattle.plir_builtin.proofs.table_body.has_body.Goals as goal

pub returns : goal.returns
returns g c =
    let e = c.is_some.ensures ∙ mapped_some c.sole_block.result ∙ ap is_some c.sole_block.ensures.body in
    (λ h. sym e ∙ h, λ h. e ∙ h)
