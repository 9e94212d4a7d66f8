use Rattle.plir_agreement_tests.proofs.carrying.erase.Goals as goal

pub returns : goal.returns
returns g c =
    (c.moves_keep_agreement.ensures c.args.tables.now c.args.ctx.now c.erase.new.ctx c.args.op
    c.stands.ensures.whole c.erase.ensures.whole c.requires.no_symbol).erased c.erase.ensures.tree c.requires.agree
