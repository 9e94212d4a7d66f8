use Rattle.std.proofs.Common.{◌≡◌}
use Rattle.plir_walk.specs.Calls.{CallsBack}
use Rattle.plir_walk.specs.Config.{order_of}
use Rattle.plir_walk.specs.Step.{due_at}
use Rattle.plir_walk.proofs.Visiting.{Cursor}
use Rattle.plir_walk.proofs.Measure.{size_of}
use Rattle.plir_walk.proofs.interruptible.mutable.walk.Given as goal

abbrev pub invariant-nodes : goal.invariant-nodes
invariant-nodes g l =
    Cursor g.C.NodeLinks.look l.setting (CallsBack g.F.Fn l.fn.callback) l.fn.ctx l.fn.state l.root l.limit l.ctx
    l.state l.node l.entering l.left
    × (l.due ≡ due_at (order_of l.setting l.node) l.entering)

abbrev pub decreases-nodes : goal.decreases-nodes
decreases-nodes g l = size_of l.setting (g.C.NodeLinks.look l.ctx) l.left l.node l.entering
