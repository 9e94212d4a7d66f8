use Rattle.plir_core.specs.ListedUses.{AreListed}
use Rattle.plir_core.proofs.context.Context.list_noted.Given as goal

abbrev pub invariant-loop-slot : goal.invariant-loop-slot
invariant-loop-slot g l = AreListed l.self l.used l.come.end l.come.seen l.uses.items
