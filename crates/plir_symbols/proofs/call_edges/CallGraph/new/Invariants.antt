use Rattle.std.proofs.Common.{take, map}
use Rattle.plir_symbols.specs.Chained.{AreChains, at_end}
use Rattle.plir_symbols.specs.declared.call_edges.End.TheVariants.{User, Symbol}
use Rattle.plir_symbols.proofs.call_edges.CallGraph.new.Given as goal

abbrev pub invariant-loop-edge : goal.invariant-loop-edge
invariant-loop-edge l =
    AreChains (map (at_end User) (take l.edge-index l.edge-items)) l.by_user
    × AreChains (map (at_end Symbol) (take l.edge-index l.edge-items)) l.by_symbol
