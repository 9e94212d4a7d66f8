use Rattle.std.proofs.Common.{refl, get_or}
use Rattle.plir_dialect.proofs.dialect.DialectOpSet.is_attr_live.Goals as goal

pub returns : goal.returns
returns g c =
    let asked = c.is_live.ensures in
    let handles = g.A.OwnAttr.handles c.args.attr.now in
    (λ t k d lt. (asked.0 t k d lt).1.0 refl, λ all. asked.1 (λ k d lt. (get_or handles k d, (λ _. all k d lt, λ _. refl))))
