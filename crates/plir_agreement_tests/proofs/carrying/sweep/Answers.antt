use Rattle.plir_agreement_tests.proofs.carrying.sweep.Goals as goal

pub returns : goal.returns
returns g c =
    c.dead_code_keeps_agreement.ensures c.requires.symbols_stay c.args.tables.now c.args.ctx.now
    c.eliminate_dead_code-swept.new.ctx c.stands.ensures.whole c.stands-2.ensures.whole
    c.eliminate_dead_code-swept.ensures.swept c.requires.agree
