use Rattle.plir_data.proofs.Reordered.{order_is_not_seen}
use Rattle.plir_data.proofs.laws.order_of_insertion_is_not_seen.Goals as goal

pub returns : goal.returns
returns g c = order_is_not_seen
