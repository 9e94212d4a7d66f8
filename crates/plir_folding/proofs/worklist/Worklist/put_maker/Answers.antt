use Rattle.std.proofs.Common.{refl, sym, ◌∙◌}
use Rattle.plir_folding.proofs.Worklists.{more-one}
use Rattle.plir_folding.proofs.worklist.Worklist.put_maker.Goals as goal

pub returns-in_ok-push : goal.returns-in_ok-push
returns-in_ok-push g c =
    more-one _ _ c.in-Some.maker (sym c.contains.ensures ∙ c.if-contains.true) refl c.in_ok-push.ensures.items
