use Rattle.plir_agreement_tests.proofs.carrying.append.Goals as goal

pub returns : goal.returns
returns g c =
    (c.moves_keep_agreement.ensures c.args.tables.now c.args.ctx.now c.insert_at_back.new.ctx c.args.op
    c.stands.ensures.whole c.insert_at_back.ensures.whole c.requires.no_symbol).last c.args.block
    c.insert_at_back.ensures.placed c.requires.agree
