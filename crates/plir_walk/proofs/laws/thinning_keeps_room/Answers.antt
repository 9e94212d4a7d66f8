use Rattle.plir_walk.proofs.Rooms.{room-kept}
use Rattle.plir_walk.proofs.laws.thinning_keeps_room.Goals as goal

pub returns : goal.returns
returns g c = λ s t w w' f. room-kept s t w.stored w'.stored f
