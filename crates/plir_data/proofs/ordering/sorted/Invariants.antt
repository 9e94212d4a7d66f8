use Rattle.std.proofs.Common.{◌≡◌, ◌++◌}
use Rattle.plir_data.proofs.ordering.sorted.Given as goal

-- what is done and what is left is all
abbrev pub invariant-entries : goal.invariant-entries
invariant-entries g l = l.sorted.items ++ l.entry-iterator ≡ l.initial.entry-iterator
