use Rattle.std.proofs.Common.{refl, sym, ◌∙◌}
use Rattle.plir_passes.proofs.Marking.{not-no, not-yes, put-again, put-new}
use Rattle.plir_passes.proofs.marks.Marks.put.Goals as goal

pub returns-then-not-fresh : goal.returns-then-not-fresh
returns-then-not-fresh c =
    put-again _ _ c.args.op c.in_ok-fresh.ensures.updates.0
    (not-no _ (sym c.in_ok-fresh.ensures.added ∙ c.if-not-fresh.true)) refl

pub returns : goal.returns
returns c =
    put-new _ _ c.args.op c.in_ok-fresh.ensures.updates.0
    (not-yes _ (sym c.in_ok-fresh.ensures.added ∙ c.if-not-fresh.false)) c.in_ok-push.ensures.items
