use Rattle.plir_walk.specs.TreeLaws.{reached-under, under-reached}
use Rattle.plir_walk.proofs.laws.places_and_climbs_agree.Goals as goal

pub returns-clause-climbed : goal.returns-clause-climbed
returns-clause-climbed c = λ s w r n h. reached-under s w h.0 n r h.1

pub returns-clause-placed : goal.returns-clause-placed
returns-clause-placed c = λ s w r n u. under-reached s w n r u
