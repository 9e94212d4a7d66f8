use Rattle.std.proofs.Common.{◌∙◌, ap, sym, subst}
use Rattle.plir_core.specs.ContextView.{IsValueLive}
use Rattle.plir_core.specs.Replaced.{with_uses_replaced}
use Rattle.plir_core.specs.Rewired.{IsRewired}
use Rattle.plir_core.proofs.Rewiring.{is_rewired}
use Rattle.plir_core.proofs.value.Value.replace_all_uses_with.Goals as goal

pub replace_noted-requires : goal.replace_noted-requires
replace_noted-requires g c =
    subst (λ z. IsValueLive z c.args.other) (sym c.note_again.ensures) c.requires.other_live

pub returns-clause-after : goal.returns-clause-after
returns-clause-after g c =
    c.clear_unused.ensures ∙ c.replace_in_all.ensures ∙ c.replace_near.ensures.rest ∙ c.replace_noted.ensures.rest
    ∙ ap (λ z. with_uses_replaced z c.args.self c.args.other) c.note_again.ensures

pub returns-clause-rewired : goal.returns-clause-rewired
returns-clause-rewired g c =
    subst (λ z. IsRewired c.args.ctx.now z c.args.self c.args.other) (sym (returns-clause-after g c))
    (is_rewired c.args.ctx.now c.args.self c.args.other)
