use Rattle.std.proofs.Common.{◌<◌, ℕ}
use Rattle.plir_core.specs.declared.value.DefiningEntity.TheVariants.{Block}
use Rattle.plir_core.specs.ValueUses.{HasUses}
use Rattle.plir_copies.specs.Copied.{value_at}
use Rattle.plir_arguments.proofs.finding.first_unused.Given as goal

abbrev pub invariant-loop-place : goal.invariant-loop-place
invariant-loop-place g l = (i : ℕ) → i < l.place → HasUses l.ctx (value_at (Block l.block) i)
