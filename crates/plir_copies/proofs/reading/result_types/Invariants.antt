use Rattle.std.proofs.Common.{◌≡◌, take}
use Rattle.plir_data.specs.Types.{AllLive}
use Rattle.plir_core.specs.ContextView.{result_types_of}
use Rattle.plir_copies.proofs.reading.result_types.Given as goal

abbrev pub invariant-loop-i : goal.invariant-loop-i
invariant-loop-i g l = (l.types.items ≡ take l.i (result_types_of l.ctx l.op)) × AllLive l.ctx.types l.types.items
