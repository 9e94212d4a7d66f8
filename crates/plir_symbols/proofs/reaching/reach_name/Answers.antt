use Rattle.std.proofs.Common.{Some, refl, sym, subst, ◌∙◌}
use Rattle.std.proofs.lemmas.Option.{none-some, same_Some}
use Rattle.plir_store.specs.FilterLaws.{not-both}
use Rattle.plir_core.specs.declared.ptr.IRNode.TheVariants.{Operation}
use Rattle.plir_core.specs.ContextView.{IsLive}
use Rattle.plir_symbols.proofs.Grown.{grown-as, grown-none}
use Rattle.plir_symbols.proofs.reaching.reach_name.Goals as goal

pub returns-in_default : goal.returns-in_default
returns-in_default g c = grown-none _ _ refl (λ q h. none-some q (c.in_default.ensures ∙ h.1))

pub returns-then-not-is_live : goal.returns-then-not-is_live
returns-then-not-is_live g c =
    grown-none _ _ refl (λ q h. let same = same_Some c.in-Some.symbol q (c.in-Some.ensures ∙ h.1) in
    not-both c.is_live.result
    (c.is_live.ensures.value ∙ subst (λ z. IsLive c.args.ctx.now (Operation z)) (sym same) h.0) c.if-not-is_live.true)

pub returns : goal.returns
returns g c =
    grown-as _ _
    (λ q same. (
      subst (λ z. IsLive c.args.ctx.now (Operation z)) (sym same)
          (sym c.is_live.ensures.value ∙ c.if-not-is_live.false),
      sym c.in-Some.ensures ∙ (λ i. Some (sym same i)),
    ))
    (λ q h. sym (same_Some c.in-Some.symbol q (c.in-Some.ensures ∙ h.1))) c.in_ok-put.ensures
