use Rattle.std.proofs.Common.{◌≤◌, ◌+◌}
use Rattle.plir_attr_text.proofs.place.place.Given as goal

abbrev pub invariant-loop-byte : goal.invariant-loop-byte
invariant-loop-byte l = record { line : l.line ≤ l.byte-index + 1; column : l.column ≤ l.byte-index + 1 }
