use Rattle.std.proofs.Common.{List, ◌++◌, take, map}
use Rattle.plir_core.specs.declared.value.Value.{Value}
use Rattle.plir_flow.specs.Taken.{IsOnceEach}
use Rattle.plir_flow.specs.RegionEdges.{Flow}
use Rattle.plir_flow.proofs.edge_parts.add_receivers.Given as goal

abbrev pub invariant-loop-flow : goal.invariant-loop-flow
invariant-loop-flow l =
    (vs : List Value) → IsOnceEach vs l.initial.seen
    → IsOnceEach (vs ++ map (λ (f : Flow). f.1) (take l.flow-index l.flows)) l.seen
