use Rattle.std.proofs.Common.{◌≡◌, ℕ}
use Rattle.plir_walk.specs.Calls.{ReadsBack}
use Rattle.plir_walk.specs.Config.{order_of}
use Rattle.plir_walk.specs.Step.{due_at}
use Rattle.plir_walk.proofs.Visiting.{Cursor}
use Rattle.plir_walk.proofs.Remaining.{left_at}
use Rattle.plir_walk.proofs.interruptible.immutable.walk.Given as goal

abbrev pub invariant-nodes : goal.invariant-nodes
invariant-nodes g l =
    ((made : ℕ) × Cursor g.C.NodeLinks.look l.setting (ReadsBack g.F.Fn l.fn.callback) l.ctx l.fn.state l.root made
    l.ctx l.state l.node l.entering 0)
    × (l.due ≡ due_at (order_of l.setting l.node) l.entering)

abbrev pub decreases-nodes : goal.decreases-nodes
decreases-nodes g l = left_at l.setting (g.C.NodeLinks.look l.ctx) l.node l.entering
