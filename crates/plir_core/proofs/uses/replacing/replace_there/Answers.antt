use Rattle.std.proofs.Common.{◌∙◌, sym, ap, subst}
use Rattle.plir_core.specs.ContextView.{IsValueLive}
use Rattle.plir_core.specs.Replaced.{with_uses_replaced}
use Rattle.plir_core.proofs.ReplacedUses.{edited-live}
use Rattle.plir_core.proofs.Rest.{edited_rest}
use Rattle.plir_core.proofs.uses.replacing.replace_there.Goals as goal

pub returns-clause-rest : goal.returns-clause-rest
returns-clause-rest g c =
    ap (λ z. with_uses_replaced z c.args.value c.args.other) c.replace_in_slot.ensures.after
    ∙ edited_rest c.args.ctx.now c.args.value c.args.other c.args.slot

pub returns-clause-live : goal.returns-clause-live
returns-clause-live g c =
    subst (λ z. IsValueLive z c.args.other) (sym c.replace_in_slot.ensures.after)
    (edited-live c.args.ctx.now c.args.slot c.args.value c.args.other c.args.other c.requires)
