use Rattle.std.proofs.Common.{sym, ◌∙◌}
use Rattle.plir_inliner.proofs.Meant.{dead-body}
use Rattle.plir_inliner.proofs.Told.{body-found, no-body}
use Rattle.plir_inliner.proofs.meaning.function_body.Goals as goal

pub returns-then-not-is_live-clause-none : goal.returns-then-not-is_live-clause-none
returns-then-not-is_live-clause-none g c = λ _ b h.
    dead-body c.args.ctx.now c.args.op (sym c.is_live.ensures.value ∙ c.if-not-is_live.true) b h

pub returns-in-Func-clause-some : goal.returns-in-Func-clause-some
returns-in-Func-clause-some g c =
    body-found c.args.ctx.now c.args.op c.sole_block.result c.sole_block.ensures.body c.in-Func.ensures.value

pub returns-in-Func-clause-none : goal.returns-in-Func-clause-none
returns-in-Func-clause-none g c = λ none b h.
    no-body c.args.ctx.now c.args.op c.sole_block.result c.sole_block.ensures.body none b h
