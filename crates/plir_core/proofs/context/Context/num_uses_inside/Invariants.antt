use Rattle.std.proofs.Common.{◌≡◌, ℕ, ◌-◌, ◌^◌, min}
use Rattle.plir_core.specs.Uses.{uses_within}
use Rattle.plir_core.specs.Walked.{IsCome}
use Rattle.plir_core.proofs.context.Context.num_uses_inside.Given as goal

abbrev pub invariant-loop-step : goal.invariant-loop-step
invariant-loop-step g l = (sum : ℕ) × (IsCome (uses_within l.self.nodes l.root) l.self.nodes l.root l.at
    sum × (l.uses ≡ min sum (2 ^ 64 - 1)))
