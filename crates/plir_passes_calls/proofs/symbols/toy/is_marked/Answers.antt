use Rattle.std.proofs.Common.{sym, ap, ◌∙◌}
use Rattle.std.specs.Prelude.{is_some}
use Rattle.plir_data.specs.Dictionary.{dict_get}
use Rattle.plir_core.specs.ContextView.{op_at}
use Rattle.plir_passes_calls.specs.CallingKinds.{private_key}
use Rattle.plir_passes_calls.proofs.Held.{some-map, marked-in}
use Rattle.plir_passes_calls.proofs.symbols.toy.is_marked.Goals as goal

pub returns : goal.returns
returns g c =
    c.is_some.ensures ∙ sym (some-map _ c.get.result) ∙ ap is_some c.get.ensures.value ∙ ap (λ z. is_some (dict_get z private_key)) c.attributes.ensures.value ∙ marked-in (op_at c.args.ctx.now c.args.op)
