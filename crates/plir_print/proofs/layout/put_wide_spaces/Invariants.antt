use Rattle.std.proofs.Common.{◌≡◌, ◌*◌, ◌++◌, replicate, string_bytes}
use Rattle.plir_print.proofs.layout.put_wide_spaces.Given as goal

abbrev pub invariant-times : goal.invariant-times
invariant-times l = string_bytes l.out ≡ string_bytes l.fn.out ++ replicate (64 * l._time) 32
