use Rattle.std.proofs.Common.{◌≡◌}
use Rattle.plir_core.specs.ContextView.{IsValueLive}
use Rattle.plir_core.specs.Replaced.{with_uses_replaced}
use Rattle.plir_core.proofs.uses.replacing.replace_between.Given as goal

abbrev pub invariant-loop-slot : goal.invariant-loop-slot
invariant-loop-slot g l = (with_uses_replaced l.ctx l.value l.other ≡ with_uses_replaced l.fn.ctx l.value l.other)
    × IsValueLive l.ctx l.other
