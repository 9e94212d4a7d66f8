use Rattle.std.specs.Prelude.{◌≡◌, ℕ, ◌<◌, Some}
use Rattle.plir_iface.specs.Sides.{type_in, types_on}
use Rattle.plir_iface.proofs.same_types.has_same_types.Given as goal

abbrev pub invariant-loop-i : goal.invariant-loop-i
invariant-loop-i g l = (k : ℕ) → k < l.i → type_in (types_on l.side l.ctx l.op) k ≡ Some l.first
