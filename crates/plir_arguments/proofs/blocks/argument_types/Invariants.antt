use Rattle.std.proofs.Common.{◌≡◌, take}
use Rattle.plir_data.specs.Types.{AllLive}
use Rattle.plir_core.specs.ContextView.{arg_types_of}
use Rattle.plir_arguments.proofs.blocks.argument_types.Given as goal

abbrev pub invariant-loop-i : goal.invariant-loop-i
invariant-loop-i g l = (l.types.items ≡ take l.i (arg_types_of l.ctx l.block)) × AllLive l.ctx.types l.types.items
