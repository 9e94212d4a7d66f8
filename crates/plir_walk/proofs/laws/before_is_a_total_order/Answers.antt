use Rattle.plir_walk.proofs.Orders.{total-order}
use Rattle.plir_walk.proofs.laws.before_is_a_total_order.Goals as goal

pub returns : goal.returns
returns c = total-order
