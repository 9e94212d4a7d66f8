use Rattle.std.specs.Prelude.{◌≡◌}
use Rattle.plir_arguments.proofs.dropping_all.put_sources.Given as goal

abbrev pub invariant-loop-used : goal.invariant-loop-used
invariant-loop-used g l = l.blocks.list ≡ l.fn.blocks.list
