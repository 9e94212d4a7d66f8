use Rattle.std.proofs.Common.{◌≡◌, take}
use Rattle.plir_core.specs.Stored.{seat_of}
use Rattle.plir_core.specs.Uses.{blocks_in}
use Rattle.plir_core.proofs.uses.noted.count_blocks.Given as goal

abbrev pub invariant-loop-block : goal.invariant-loop-block
invariant-loop-block l = l.count ≡ blocks_in (seat_of l.node) (take l.block-index l.blocks)
