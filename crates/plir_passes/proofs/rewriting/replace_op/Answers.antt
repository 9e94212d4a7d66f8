use Rattle.std.proofs.Common.{ap, refl, subst, zero, ◌∙◌}
use Rattle.std.proofs.lemmas.List.{nil_from_length}
use Rattle.plir_core.specs.declared.ptr.IRNode.TheVariants.{Operation}
use Rattle.plir_core.specs.Replaced.{with_uses_replaced}
use Rattle.plir_core.specs.Results.{result_of}
use Rattle.plir_core.specs.Rewired.{IsRewired}
use Rattle.plir_core.specs.Unused.{without_tree}
use Rattle.plir_passes.proofs.rewriting.replace_op.Goals as goal

pub erase-requires-clause-live : goal.erase-requires-clause-live
erase-requires-clause-live g c =
    c.replace_all_uses_with.ensures.rewired.keeps.live (Operation c.args.op) ∙ c.requires.live

pub erase-requires-clause-unused : goal.erase-requires-clause-unused
erase-requires-clause-unused g c =
    c.replacements.ensures.unused c.args.ctx.now c.replace_all_uses_with.new.ctx c.args.op c.args.value
    c.replace_all_uses_with.ensures.whole c.requires.one_result (nil_from_length _ c.requires.no_region)
    c.requires.of_another
    (subst (λ z. IsRewired c.args.ctx.now c.replace_all_uses_with.new.ctx z c.args.value) c.get_result-old.ensures.value
    c.replace_all_uses_with.ensures.rewired)

pub returns-clause-after : goal.returns-clause-after
returns-clause-after g c =
    c.erase.ensures.after
    ∙ ap (λ z. without_tree z (Operation c.args.op)) (c.replace_all_uses_with.ensures.after
    ∙ ap (λ z. with_uses_replaced c.args.ctx.now z c.args.value) c.get_result-old.ensures.value)

pub returns-clause-replaced : goal.returns-clause-replaced
returns-clause-replaced g c = λ illegal begun block whole here prepared.
    (let s = c.args.ctx.now in
    let t = c.replace_all_uses_with.new.ctx in
    let rewired =
    subst (λ z. IsRewired s t z c.args.value) c.get_result-old.ensures.value c.replace_all_uses_with.ensures.rewired in
    let step =
    c.replacements.ensures.rewired illegal s t block c.args.op (result_of c.args.op 0) c.args.value (zero, refl) rewired
    in
    c.replacements.ensures.erased illegal begun t c.erase.new.ctx block c.args.op whole
    c.replace_all_uses_with.ensures.whole c.erase.ensures.whole here
    (c.replacements.ensures.then illegal begun s t block c.args.op whole prepared step) c.erase.ensures.tree
    c.erase.ensures.after)
