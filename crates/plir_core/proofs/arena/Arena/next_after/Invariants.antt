use Rattle.std.proofs.Common.{◌≡◌, ℕ, true, Some}
use Rattle.plir_core.specs.declared.ptr.IRNode.{IRNode}
use Rattle.plir_core.specs.Nodes.{is_node_live}
use Rattle.plir_core.specs.Walked.{IsBehind}
use Rattle.plir_core.proofs.Ancestors.{levels_left}
use Rattle.plir_core.proofs.arena.Arena.next_after.Given as goal

abbrev pub invariant-loop-root : goal.invariant-loop-root
invariant-loop-root g l = record {
  live : is_node_live l.self l.at ≡ true;
  behind : (f : IRNode → ℕ) (before : ℕ) → IsBehind f l.self l.root l.fn.node before →
      IsBehind f l.self l.root l.at before;
}

abbrev pub decreases-loop-root : goal.decreases-loop-root
decreases-loop-root g l = levels_left l.self (Some l.at)
