use Rattle.std.proofs.Common.{◌≡◌, take}
use Rattle.std.specs.Prelude.{All}
use Rattle.plir_core.specs.ContextView.{IsValueLive, operands_of}
use Rattle.plir_copies.proofs.reading.operands.Given as goal

abbrev pub invariant-loop-i : goal.invariant-loop-i
invariant-loop-i g l =
    (l.operands.items ≡ take l.i (operands_of l.ctx l.op)) × All (IsValueLive l.ctx) l.operands.items
