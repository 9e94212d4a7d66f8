use Rattle.std.proofs.Common.{◌≡◌, ◌≤◌, take}
use Rattle.std.specs.List.{sum_by}
use Rattle.plir_core.specs.Stored.{seat_of}
use Rattle.plir_core.specs.Erase.{tree_of}
use Rattle.plir_core.specs.Uses.{blocks_in}
use Rattle.plir_core.proofs.arena.Arena.count_blocks_of.Given as goal

abbrev pub invariant-loop-block : goal.invariant-loop-block
invariant-loop-block g l = record {
  counted : l.count ≡ sum_by (λ n. blocks_in (seat_of n) (take l.block-index l.blocks)) (tree_of l.self l.root);
  fits : l.count ≤ l.block-index;
}
