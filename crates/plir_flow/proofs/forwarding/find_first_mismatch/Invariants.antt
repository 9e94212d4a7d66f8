use Rattle.std.proofs.Common.{ℕ, ◌<◌}
use Rattle.plir_flow.specs.Branches.{AgreesAt}
use Rattle.plir_flow.proofs.forwarding.find_first_mismatch.Given as goal

abbrev pub invariant-loop-i : goal.invariant-loop-i
invariant-loop-i g l =
    (k : ℕ) → k < l.i → AgreesAt l.ctx (g.O.Op.pointer l.branch) (g.O.BranchOpInterface.forwards l.branch l.ctx) k
