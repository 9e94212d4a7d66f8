use Rattle.plir_walk.proofs.Orders.{reversed}
use Rattle.plir_walk.proofs.laws.post_reverse_is_pre_forward_reversed.Goals as goal

pub returns : goal.returns
returns c = reversed
