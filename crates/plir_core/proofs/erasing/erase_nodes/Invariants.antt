use Rattle.plir_core.specs.Uses.{Counts, uses_of}
use Rattle.plir_core.proofs.erasing.erase_nodes.Given as goal
use Rattle.plir_core.proofs.Erasures.{IsErasing, work_left}

abbrev pub invariant-loop-child : goal.invariant-loop-child
invariant-loop-child g l = record {
  erasing : IsErasing l.fn.nodes l.nodes l.root l.at;
  counted : Counts l.fn.uses (uses_of l.fn.nodes.ops) → Counts l.uses (uses_of l.nodes.ops);
}

abbrev pub decreases-loop-child : goal.decreases-loop-child
decreases-loop-child g l = work_left l.nodes l.at
