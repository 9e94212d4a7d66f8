use Rattle.std.specs.Prelude.{◌≡◌}
use Rattle.plir_arguments.proofs.waiting.Blocks.put_all.Given as goal

abbrev pub invariant-loop-at : goal.invariant-loop-at
invariant-loop-at l = l.self.list ≡ l.fn.self.list
