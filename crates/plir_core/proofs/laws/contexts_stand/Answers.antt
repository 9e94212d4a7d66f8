use Rattle.plir_core.proofs.Standing.{standing}
use Rattle.plir_core.proofs.laws.contexts_stand.Goals as goal

pub returns : goal.returns
returns g c = λ s w. standing s g.D.OpSet.attr_handles w
