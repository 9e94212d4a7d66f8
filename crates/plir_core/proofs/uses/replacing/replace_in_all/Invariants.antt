use Rattle.std.proofs.Common.{◌≡◌}
use Rattle.plir_core.specs.ContextView.{IsValueLive}
use Rattle.plir_core.proofs.ReplacedUses.{replaced_to}
use Rattle.plir_core.proofs.uses.replacing.replace_in_all.Given as goal

abbrev pub invariant-loop-slot : goal.invariant-loop-slot
invariant-loop-slot g l = (l.ctx ≡ replaced_to l.value l.other l.fn.ctx l.slot) × IsValueLive l.ctx l.other
