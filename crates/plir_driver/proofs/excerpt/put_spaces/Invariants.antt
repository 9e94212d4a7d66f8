use Rattle.std.proofs.Common.{◌≡◌, ◌++◌, string_bytes}
use Rattle.plir_driver.specs.Excerpt.{spaces}
use Rattle.plir_driver.proofs.excerpt.put_spaces.Given as goal

abbrev pub invariant-loop : goal.invariant-loop
invariant-loop l = string_bytes l.out ≡ string_bytes l.fn.out ++ spaces l.counter
