use Rattle.std.specs.Prelude.{ℕ, ◌<◌, ◌≤◌}
use Rattle.plir_iface.specs.Sides.{type_in, types_on}
use Rattle.plir_iface.specs.TypeRules.{Passes}
use Rattle.plir_iface.proofs.type_tests.first_failing.Given as goal

abbrev pub invariant-loop-i : goal.invariant-loop-i
invariant-loop-i g l =
    (k : ℕ) → l.start ≤ k → k < l.i → Passes g.Q.TypeTest.passes l.ctx (type_in (types_on l.side l.ctx l.op) k)
