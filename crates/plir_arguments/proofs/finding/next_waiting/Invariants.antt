use Rattle.std.specs.Prelude.{◌≡◌, length}
use Rattle.plir_arguments.proofs.finding.next_waiting.Given as goal

abbrev pub invariant-waiting : goal.invariant-waiting
invariant-waiting g l = l.blocks.list ≡ l.fn.blocks.list

abbrev pub decreases-waiting : goal.decreases-waiting
decreases-waiting g l = length l.blocks.waiting.items
