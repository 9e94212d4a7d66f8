use Rattle.std.proofs.Common.{◌++◌, [], ◌∷◌, ap, ◌∙◌}
use Rattle.std.proofs.lemmas.List.{replicate_more}
use Rattle.plir_read_ir.proofs.making.repeated.Goals as goal

pub times-preserved : goal.times-preserved
times-preserved c =
    c.in_ok-push.ensures.items ∙ ap (λ z. z ++ c.args.block ∷ []) c.times.invariant ∙
    replicate_more c.times._time c.args.block
