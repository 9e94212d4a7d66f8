use Rattle.std.proofs.Common.{◌<◌, ◌∙◌, ap, length, subst, sym}
use Rattle.plir_core.specs.ContextView.{arg_types_of}
use Rattle.plir_core.specs.Rewired.{IsRewired}
use Rattle.plir_core.specs.declared.value.DefiningEntity.TheVariants.{Block}
use Rattle.plir_copies.specs.Copied.{value_at}
use Rattle.plir_arguments.specs.Dropped.{moved_down}
use Rattle.plir_arguments.proofs.giving.move_argument.Goals as goal

pub get_argument-moved-requires-clause-below : goal.get_argument-moved-requires-clause-below
get_argument-moved-requires-clause-below g c =
    subst (λ k. k < length (arg_types_of c.args.ctx.now c.args.other)) (sym c.place_without.ensures) c.requires.other_below

pub returns-clause-rewired : goal.returns-clause-rewired
returns-clause-rewired g c =
    let s = c.args.ctx.now in
    let t = c.replace_all_uses_with.new.ctx in
    subst (λ v. IsRewired s t v (value_at (Block c.args.other) (moved_down c.args.gone c.args.place))) c.get_argument-argument.ensures.value
    (subst (λ w. IsRewired s t c.get_argument-argument.result w)
    (c.get_argument-moved.ensures.value ∙ ap (value_at (Block c.args.other)) c.place_without.ensures)
    c.replace_all_uses_with.ensures.rewired)
