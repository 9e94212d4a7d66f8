use Rattle.std.proofs.Common.{◌≡◌, ◌++◌, drop}
use Rattle.plir_tests.specs.Holders.{spaced_types}
use Rattle.plir_tests.proofs.holder_set.put_types.Given as goal

abbrev pub invariant-handles : goal.invariant-handles
invariant-handles l = l.body ++ spaced_types (drop l.handle-index l.handles) ≡ l.fn.body ++ spaced_types l.handles
