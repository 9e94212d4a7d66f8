use Rattle.std.proofs.Common.{◌≡◌, Bool, true, false, Option}
use Rattle.plir_core.specs.declared.ptr.IRNode.{IRNode}
use Rattle.plir_walk.specs.Step.{Hops}
use Rattle.plir_walk.proofs.Remaining.{left_at}
use Rattle.plir_walk.proofs.cursor.leave.Given as goal

abbrev pub invariant-up : goal.invariant-up
invariant-up g l =
    let s = g.C.NodeLinks.look l.ctx in
    (s.live l.here ≡ true) × ((o : Option (IRNode × Bool)) → Hops l.config s l.root l.here false o
    → Hops l.config s l.root l.fn.node false o)

abbrev pub decreases-up : goal.decreases-up
decreases-up g l = left_at l.config (g.C.NodeLinks.look l.ctx) l.here false
