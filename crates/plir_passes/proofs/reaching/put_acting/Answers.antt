use Rattle.std.proofs.Common.{◌∙◌, ap, refl, sym}
use Rattle.plir_store.specs.FilterLaws.{not-both}
use Rattle.plir_core.specs.ContextView.{kind_of}
use Rattle.plir_passes.specs.Legal.{is_kind}
use Rattle.plir_passes.specs.Reached.{acts}
use Rattle.plir_passes.proofs.Marking.{grown-none}
use Rattle.plir_passes.proofs.reaching.put_acting.Goals as goal

pub returns-then-not-kind_acts : goal.returns-then-not-kind_acts
returns-then-not-kind_acts g c =
    let test = is_kind (acts g.D.EffectSet.has_effect) in
    grown-none _ _ refl (λ q h. not-both (test (kind_of c.args.ctx.now c.args.op)) h.1
    (ap test c.kind.ensures.value ∙ sym c.kind_acts.ensures ∙ c.if-not-kind_acts.true))
