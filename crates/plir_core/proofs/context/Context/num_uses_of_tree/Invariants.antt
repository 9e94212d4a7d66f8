use Rattle.std.proofs.Common.{◌≤◌, ◌*◌, ◌-◌, ◌^◌}
use Rattle.plir_core.specs.Stored.{seat_of}
use Rattle.plir_core.specs.Uses.{uses_of}
use Rattle.plir_core.specs.Walked.{IsCome}
use Rattle.plir_core.proofs.context.Context.num_uses_of_tree.Given as goal

abbrev pub invariant-loop-step : goal.invariant-loop-step
invariant-loop-step g l = record {
  come : IsCome (λ n. uses_of l.self.nodes.ops (seat_of n)) l.self.nodes l.root l.at l.uses;
  fits : l.uses ≤ l._step * (2 ^ 32 - 1);
}
