use Rattle.std.proofs.Common.{ap, ◌∙◌}
use Rattle.std.specs.Prelude.{codes}
use Rattle.plir_data.specs.Dictionary.{dict_get}
use Rattle.plir_core.specs.ContextView.{op_at}
use Rattle.plir_symbols.specs.BuiltinNames.{is_text, visibility_key}
use Rattle.plir_symbols.proofs.HeldNames.{marked-in}
use Rattle.plir_symbols.proofs.builtin_names.is_marked_private.Goals as goal

pub returns-in-Some : goal.returns-in-Some
returns-in-Some g c =
    c.is_text.ensures
    ∙ ap (is_text (codes "private"))
    (c.in-Some.ensures.value ∙ ap (λ z. dict_get z visibility_key) c.attributes.ensures.value)
    ∙ marked-in (op_at c.args.ctx.now c.args.op)

pub returns-in-None : goal.returns-in-None
returns-in-None g c =
    ap (is_text (codes "private"))
    (c.in-None.ensures.value ∙ ap (λ z. dict_get z visibility_key) c.attributes.ensures.value)
    ∙ marked-in (op_at c.args.ctx.now c.args.op)
