use Rattle.std.proofs.Common.{◌≡◌, ℕ, ◌<◌}
use Rattle.plir_iface.specs.Sides.{type_in}
use Rattle.plir_flow.specs.Branches.{types_within, argument_types}
use Rattle.plir_flow.proofs.forwarding.find_mismatch.Given as goal

abbrev pub invariant-loop-idx : goal.invariant-loop-idx
invariant-loop-idx g l =
    (k : ℕ) → k < l.idx
    → type_in (types_within l.ctx l.op (l.start, l.end)) k ≡ type_in (argument_types l.ctx l.block) k
