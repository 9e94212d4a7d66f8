use Rattle.std.specs.Prelude.{All}
use Rattle.plir_core.specs.ContextView.{IsValueLive}
use Rattle.plir_scripts.proofs.made.Made.values_named.Given as goal

abbrev pub invariant-loop-name : goal.invariant-loop-name
invariant-loop-name g l = All (IsValueLive l.ctx) l.values.items
