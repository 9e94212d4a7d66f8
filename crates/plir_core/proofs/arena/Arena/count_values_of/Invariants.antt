use Rattle.std.proofs.Common.{◌≡◌, ◌≤◌, take}
use Rattle.std.specs.List.{sum_by}
use Rattle.plir_core.specs.Stored.{seat_of}
use Rattle.plir_core.specs.Erase.{tree_of}
use Rattle.plir_core.specs.Uses.{values_from}
use Rattle.plir_core.proofs.arena.Arena.count_values_of.Given as goal

abbrev pub invariant-loop-value : goal.invariant-loop-value
invariant-loop-value g l = record {
  counted : l.count ≡ sum_by (λ n. values_from (seat_of n) (take l.value-index l.values)) (tree_of l.self l.root);
  fits : l.count ≤ l.value-index;
}
