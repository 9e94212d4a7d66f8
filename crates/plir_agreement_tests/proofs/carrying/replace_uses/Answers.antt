use Rattle.plir_agreement_tests.proofs.carrying.replace_uses.Goals as goal

pub returns : goal.returns
returns g c =
    (c.edits_keep_agreement.ensures.edits c.args.tables.now c.args.ctx.now c.replace_all_uses_with.new.ctx
    c.stands.ensures.whole c.replace_all_uses_with.ensures.whole).uses c.args.value c.args.other
    c.replace_all_uses_with.ensures.rewired c.requires.agree
