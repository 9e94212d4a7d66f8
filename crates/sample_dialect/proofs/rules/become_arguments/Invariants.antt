use Rattle.std.proofs.Common.{ℕ, ◌<◌}
use Rattle.sample_dialect.specs.Rules.{BecomesArgument}
use Rattle.sample_dialect.proofs.rules.become_arguments.Given as goal

-- each operand before this place is of the type of its argument
abbrev pub invariant-loop-i : goal.invariant-loop-i
invariant-loop-i g l = (k : ℕ) → k < l.i → BecomesArgument l.first l.ctx l.op l.block k
