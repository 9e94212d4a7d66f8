use Rattle.std.specs.Prelude.{All}
use Rattle.plir_flow.specs.RegionEdges.{IsUseLive}
use Rattle.plir_text_calls.proofs.print.edges.reads_of.Given as goal

abbrev pub invariant-words : goal.invariant-words
invariant-words g l = All (IsUseLive l.ctx) l.reads.items
