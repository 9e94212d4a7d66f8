use Rattle.std.proofs.Common.{true≢false, refl, sym, ◌∙◌}
use Rattle.plir_passes.proofs.Lists.{again-listed, again-other}
use Rattle.plir_passes.proofs.worklist.Worklist.put_again.Goals as goal

pub returns-in_ok-push : goal.returns-in_ok-push
returns-in_ok-push c =
    again-listed _ _ c.args.op refl (sym c.contains.ensures ∙ c.if-contains.true) c.in_ok-push.ensures.items

pub returns-else-contains : goal.returns-else-contains
returns-else-contains c =
    again-other _ _ c.args.op refl (λ h. true≢false (sym h ∙ sym c.contains.ensures ∙ c.if-contains.false)) refl
