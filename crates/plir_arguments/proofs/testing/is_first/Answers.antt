use Rattle.std.proofs.Common.{◌∙◌, Some, ap, sym}
use Rattle.std.proofs.lemmas.Bool.{false≢true}
use Rattle.std.proofs.lemmas.Option.{none-some, same_Some}
use Rattle.plir_core.specs.declared.ptr.IRNode.TheVariants.{BasicBlock}
use Rattle.plir_arguments.proofs.Members.{same-ptr}
use Rattle.plir_arguments.proofs.PutSteps.{block-same}
use Rattle.plir_arguments.proofs.testing.is_first.Goals as goal

pub returns-in-Some : goal.returns-in-Some
returns-in-Some g c =
    let at = c.in-Some.ensures.value in
    let told = same-ptr c.in-Some.first c.args.block c.eq.result c.eq.ensures in (
      λ yes. sym at ∙ ap (λ z. Some (BasicBlock z)) (told.0 yes),
      λ h. told.1 (block-same c.in-Some.first c.args.block (same_Some _ _ (at ∙ h))),
    )

pub returns-in-None : goal.returns-in-None
returns-in-None g c = (
  λ yes. absurd (false≢true yes),
  λ h. absurd (none-some (BasicBlock c.args.block) (c.in-None.ensures.value ∙ h)),
)
