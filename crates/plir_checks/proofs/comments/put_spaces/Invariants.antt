use Rattle.std.proofs.Common.{◌≡◌, ◌++◌, string_bytes}
use Rattle.plir_checks.specs.Comments.{spaces}
use Rattle.plir_checks.proofs.comments.put_spaces.Given as goal

abbrev pub invariant-loop : goal.invariant-loop
invariant-loop l = string_bytes l.out ≡ string_bytes l.fn.out ++ spaces l.counter
