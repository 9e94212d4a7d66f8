use Rattle.plir_folding.proofs.StillPassed.{still-passed}
use Rattle.plir_folding.proofs.laws.merging_keeps_passed.Goals as goal

pub returns : goal.returns
returns g c = λ s t r n whole merged passed.
    still-passed g.D.IdentitySet.is_identity s t (c.lawful_changes.ensures.forest s whole) r merged n passed
