use Rattle.std.proofs.Common.{◌-◌}
use Rattle.plir_core.specs.ContextView.{num_live}
use Rattle.plir_passes.specs.Reached.{NeedsUnder, StaysItself}
use Rattle.plir_passes.proofs.Searching.{IsSearching}
use Rattle.plir_passes.proofs.reaching.reached_ops.Given as goal

abbrev pub invariant-ops : goal.invariant-ops
invariant-ops g l =
    IsSearching (StaysItself g.D.EffectSet.has_effect g.D.OpSet.is_terminator l.ctx l.fn.root)
    (NeedsUnder g.D.EffectSet.has_effect g.D.OpSet.is_terminator l.ctx l.fn.root) l.reached l.next

abbrev pub decreases-ops : goal.decreases-ops
decreases-ops g l = num_live l.ctx - l.next
