use Rattle.std.proofs.Common.{◌≡◌}
use Rattle.plir_core.specs.declared.value.DefiningEntity.TheVariants.{Op}
use Rattle.plir_copies.specs.Images.{images}
use Rattle.plir_copies.specs.Copied.{with_values_of}
use Rattle.plir_copies.proofs.copying.map_results.Given as goal

abbrev pub invariant-loop-i : goal.invariant-loop-i
invariant-loop-i g l = images l.map ≡ with_values_of (images l.fn.map) (Op l.op) (Op l.copy) l.i
