use Rattle.std.proofs.Common.{◌-◌, length}
use Rattle.plir_flow.proofs.Reaching.{IsReaching}
use Rattle.plir_flow.proofs.hops.add_reached.Given as goal

abbrev pub invariant-loop-next : goal.invariant-loop-next
invariant-loop-next l = IsReaching l.hops l.fn.start l.reached l.next

abbrev pub decreases-loop-next : goal.decreases-loop-next
decreases-loop-next l = length l.hops - l.next
