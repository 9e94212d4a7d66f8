use Rattle.std.proofs.Common.{length, sym, ap, ◌∙◌}
use Rattle.plir_core.specs.declared.value.DefiningEntity.TheVariants.{Op, Block}
use Rattle.plir_print.specs.ValueLists.{values_in}
use Rattle.plir_print.proofs.ValueLists.{length-values}
use Rattle.plir_print.proofs.values.num_values.Goals as goal

pub returns-in-Results : goal.returns-in-Results
returns-in-Results g c =
    c.get_num_results.ensures.value ∙ sym (length-values c.args.ctx.now (Op c.in-Results.op))
    ∙ ap (λ l. length (values_in c.args.ctx.now l)) (sym c.in-Results.is)

pub returns-in-Arguments : goal.returns-in-Arguments
returns-in-Arguments g c =
    c.get_num_arguments.ensures.value ∙ sym (length-values c.args.ctx.now (Block c.in-Arguments.block))
    ∙ ap (λ l. length (values_in c.args.ctx.now l)) (sym c.in-Arguments.is)
