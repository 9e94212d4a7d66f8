use Rattle.plir_agreement_tests.proofs.carrying.fold.Goals as goal

pub returns : goal.returns
returns g c =
    c.stayed_tables_agree.ensures c.args.ctx.now c.fold_constants.new.ctx c.args.tables.now
    (c.folding_keeps_tables.ensures c.args.ctx.now c.fold_constants.new.ctx c.args.tables.now c.stands.ensures.whole
    c.fold_constants.ensures.whole c.fold_constants.ensures.folded c.requires.given) c.requires.agree
