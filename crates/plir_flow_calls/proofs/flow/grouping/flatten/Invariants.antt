use Rattle.std.specs.Prelude.{All, length, ◌<◌, ◌^◌}
use Rattle.plir_flow_calls.proofs.flow.grouping.flatten.Given as goal

abbrev pub invariant-loop-names : goal.invariant-loop-names
invariant-loop-names g l = All (λ seg. length seg.items < 2 ^ 32) l.segments.items
