use Rattle.std.proofs.Common.{◌≡◌}
use Rattle.plir_core.specs.ContextView.{IsValueLive}
use Rattle.plir_core.specs.Replaced.{with_uses_replaced}
use Rattle.plir_core.proofs.uses.replacing.replace_noted.Given as goal

abbrev pub invariant-loop-entry : goal.invariant-loop-entry
invariant-loop-entry g l = (with_uses_replaced l.ctx l.value l.other ≡ with_uses_replaced l.fn.ctx l.value l.other)
    × IsValueLive l.ctx l.other
