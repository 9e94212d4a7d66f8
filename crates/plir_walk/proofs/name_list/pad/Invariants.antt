use Rattle.std.proofs.Common.{◌≡◌, ◌+◌, ◌-◌, ◌≤◌, ◌++◌, length, replicate, None}
use Rattle.plir_walk.proofs.name_list.pad.Given as goal

abbrev pub invariant-loop-names : goal.invariant-loop-names
invariant-loop-names l = (l.names.items ≡ l.initial.names.items ++ replicate (length l.names.items - length
    l.initial.names.items) None) × (length l.initial.names.items ≤ length l.names.items) ×
    (length l.names.items ≤ length l.initial.names.items + (l.initial.count - length l.initial.names.items))

abbrev pub decreases-loop-names : goal.decreases-loop-names
decreases-loop-names l = l.initial.count - length l.names.items
