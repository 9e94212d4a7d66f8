use Rattle.std.proofs.Common.{◌≡◌, ◌≤◌, length, map}
use Rattle.std.specs.HashMap.{get}
use Rattle.std.specs.Map.{update_all}
use Rattle.std.specs.Map.Iter.{deref_pair}
use Rattle.std.specs.HashMap.{spare}
use Rattle.plir_copies.proofs.value_map.put_all.Given as goal

abbrev pub invariant-loop-key : goal.invariant-loop-key
invariant-loop-key g l =
    ((k : _) → get g.K.PartialEq.eq l.into k ≡ update_all g.K.PartialEq.eq (get g.K.PartialEq.eq l.initial.into)
    (map deref_pair l.yielded) k) × (length l.key-iterator ≤ spare l.into)
