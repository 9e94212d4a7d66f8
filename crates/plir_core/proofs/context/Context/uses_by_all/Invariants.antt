use Rattle.std.proofs.Common.{◌≡◌}
use Rattle.plir_core.specs.ListedUses.{joined, used_in}
use Rattle.plir_core.proofs.context.Context.uses_by_all.Given as goal

abbrev pub invariant-loop-slot : goal.invariant-loop-slot
invariant-loop-slot g l = l.uses.items ≡ joined (used_in l.self l.used) l.slot
