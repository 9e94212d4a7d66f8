use Rattle.plir_arguments.specs.Listed.{num_arguments}
use Rattle.plir_arguments.proofs.Going.{IsGoing}
use Rattle.plir_arguments.proofs.dropping_all.drop_unused_arguments.Given as goal

abbrev pub invariant-drops : goal.invariant-drops
invariant-drops g l =
    IsGoing g.D.BranchEditSet.removes g.D.BranchSet.forwards l.fn.root g.D.BranchEditSet.layout_keys
    g.D.OpSet.attr_handles l.fn.ctx l.ctx l.any l.blocks.list.items

abbrev pub decreases-drops : goal.decreases-drops
decreases-drops g l = num_arguments l.ctx l.blocks.list.items
