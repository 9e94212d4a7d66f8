use Rattle.std.proofs.Common.{sym, ◌∙◌}
use Rattle.plir_core.specs.declared.ptr.IRNode.TheVariants.{Region}
use Rattle.plir_inliner.proofs.Soles.{body-none, body-of-only}
use Rattle.plir_inliner.proofs.meaning.sole_block.Goals as goal

pub returns-in-Some-clause-body : goal.returns-in-Some-clause-body
returns-in-Some-clause-body g c =
    c.only_block.ensures.only
    ∙ sym (body-of-only c.args.ctx.now c.args.op (Region c.in-Some.region) (sym c.in-Some.ensures.only))

pub returns-in-None-clause-body : goal.returns-in-None-clause-body
returns-in-None-clause-body g c = sym (body-none c.args.ctx.now c.args.op (sym c.in-None.ensures.only))
