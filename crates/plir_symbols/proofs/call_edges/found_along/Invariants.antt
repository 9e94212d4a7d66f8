use Rattle.plir_data.specs.Hashed.{past}
use Rattle.plir_symbols.proofs.Chaining.{IsSought}
use Rattle.plir_symbols.proofs.call_edges.found_along.Given as goal

abbrev pub invariant-chain : goal.invariant-chain
invariant-chain l = IsSought l.edges l.fn.end l.fn.op l.at l.found.items

abbrev pub decreases-chain : goal.decreases-chain
decreases-chain l = past l.at
