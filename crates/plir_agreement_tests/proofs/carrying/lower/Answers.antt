use Rattle.plir_agreement_tests.proofs.carrying.lower.Goals as goal

pub returns : goal.returns
returns g c =
    c.conversions_keep_agreement.ensures c.args.tables.now c.requires.each c.args.ctx.now c.convert.new.ctx _ _
    c.convert.ensures.handed c.requires.agree
