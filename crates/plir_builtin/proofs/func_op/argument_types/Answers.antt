use Rattle.std.proofs.Common.{sym, subst, ◌∙◌}
use Rattle.plir_data.specs.LiveLaws.{arguments_live}
use Rattle.plir_data.specs.Types.{AllLive}
use Rattle.plir_builtin.proofs.func_op.argument_types.Goals as goal

pub returns-in-Ok-clause-live : goal.returns-in-Ok-clause-live
returns-in-Ok-clause-live g c =
    let types = c.args.ctx.now.types in
    let arguments = arguments_live types _ _ c.deref-function.ensures.live in
    subst (AllLive types) (sym (c.in-Ok.ensures.items ∙ c.arg_types.ensures)) arguments
