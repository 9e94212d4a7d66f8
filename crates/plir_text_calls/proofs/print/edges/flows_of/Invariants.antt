use Rattle.std.specs.Prelude.{All}
use Rattle.plir_flow.specs.RegionEdges.{IsFlowLive}
use Rattle.plir_text_calls.proofs.print.edges.flows_of.Given as goal

abbrev pub invariant-words : goal.invariant-words
invariant-words g l = All (IsFlowLive l.ctx) l.flows.items
