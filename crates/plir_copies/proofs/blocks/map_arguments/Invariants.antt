use Rattle.std.proofs.Common.{◌≡◌}
use Rattle.plir_core.specs.declared.value.DefiningEntity.TheVariants.{Block}
use Rattle.plir_copies.specs.Images.{images}
use Rattle.plir_copies.specs.Copied.{with_values_of}
use Rattle.plir_copies.proofs.blocks.map_arguments.Given as goal

abbrev pub invariant-loop-i : goal.invariant-loop-i
invariant-loop-i g l = images l.map ≡ with_values_of (images l.fn.map) (Block l.block) (Block l.copy) l.i
