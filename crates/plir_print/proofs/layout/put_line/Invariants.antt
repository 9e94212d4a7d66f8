use Rattle.std.proofs.Common.{◌≡◌, ◌+◌, ◌*◌, ◌/◌, ◌++◌, string_bytes}
use Rattle.plir_print.specs.OpText.{line}
use Rattle.plir_print.proofs.layout.put_line.Given as goal

abbrev pub invariant-columns : goal.invariant-columns
invariant-columns l = string_bytes l.out ≡ string_bytes l.fn.out ++ line (64 * (l.columns / 64) + l._column)
