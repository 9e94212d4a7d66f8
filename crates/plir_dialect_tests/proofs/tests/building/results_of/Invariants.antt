use Rattle.std.specs.Prelude.{All}
use Rattle.plir_core.specs.ContextView.{IsValueLive}
use Rattle.plir_dialect_tests.proofs.tests.building.results_of.Given as goal

abbrev pub invariant-loop-op : goal.invariant-loop-op
invariant-loop-op g l = All (IsValueLive l.ctx) l.values.items
