use Rattle.std.proofs.Common.{refl, sym, subst}
use Rattle.plir_core.specs.Held.{IsOpEdited}
use Rattle.plir_agreement_tests.proofs.carrying.relocate.Goals as goal

pub returns : goal.returns
returns g c =
    let s = c.args.ctx.now in
    let edited =
    subst (λ z. IsOpEdited s z c.args.op (λ o. record o { location = c.args.location })) (sym c.set_loc.ensures.after)
    (c.op_edits_keep_the_rest.ensures (λ o. record o { location = c.args.location })) in
    (c.edits_keep_agreement.ensures.edits c.args.tables.now s c.set_loc.new.ctx c.stands.ensures.whole
    c.set_loc.ensures.whole).op c.args.op (λ o. record o { location = c.args.location })
    (record { kind = λ o. refl; name = λ o. refl }) edited c.requires.agree
