use Rattle.std.proofs.Common.{◌-◌, length}
use Rattle.plir_core.specs.ContextView.{children}
use Rattle.plir_core.specs.WellFormed.{IsWellFormed}
use Rattle.plir_copies.proofs.Children.{AreSomeCopied}
use Rattle.plir_copies.proofs.trees.copy_children.Given as goal

abbrev pub invariant-children : goal.invariant-children
invariant-children g l = record {
  some : AreSomeCopied l.fn.ctx l.ctx l.fn.node l.copy l.fn.twins.items l.twins.items l.next;
  formed : IsWellFormed g.D.OpSet.attr_handles l.ctx;
}

abbrev pub decreases-children : goal.decreases-children
decreases-children g l = length (children l.fn.ctx l.fn.node) - (length l.twins.items - length l.fn.twins.items)
