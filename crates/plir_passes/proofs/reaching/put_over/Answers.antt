use Rattle.std.proofs.Common.{◌∙◌, refl}
use Rattle.std.proofs.lemmas.Option.{none-some}
use Rattle.plir_passes.proofs.Marking.{grown-none}
use Rattle.plir_passes.proofs.reaching.put_over.Goals as goal

pub returns-in-None : goal.returns-in-None
returns-in-None g c = grown-none _ _ refl (λ q h. none-some _ (c.in-None.ensures.value ∙ h.0))
