use Rattle.std.proofs.Common.{◌∙◌, ap, sym, subst, ◌++◌, ◌∷◌, []}
use Rattle.std.specs.Prelude.{All}
use Rattle.std.proofs.lemmas.List.Elements.{All-push}
use Rattle.plir_data.specs.Types.{IsLive as IsTypeLive}
use Rattle.plir_core.specs.ContextView.{result_types_of}
use Rattle.plir_copies.specs.ListLaws.{take_next}
use Rattle.plir_copies.proofs.reading.result_types.Goals as goal

pub loop-i-preserved : goal.loop-i-preserved
loop-i-preserved g c =
    let s = c.args.ctx.now in
    let x = c.get_type.result in (
      c.in_ok-push.ensures.items ∙ ap (λ z. z ++ x ∷ []) c.loop-i.invariant.0
          ∙ sym (take_next (result_types_of s c.args.op) c.loop-i.i x c.get_type.ensures.value),
      subst (All (IsTypeLive s.types)) (sym c.in_ok-push.ensures.items)
          (All-push (IsTypeLive s.types) c.loop-i.types.items x c.loop-i.invariant.1 c.get_type.ensures.live),
    )
