use Rattle.std.proofs.Common.{take}
use Rattle.plir_core.specs.ContextView.{operands_of}
use Rattle.plir_core.specs.declared.value.DefiningEntity.TheVariants.{Op}
use Rattle.plir_inline.specs.Given.{NoneFrom}
use Rattle.plir_inline.proofs.fitting.uses_none_of.Given as goal

abbrev pub invariant-loop-i : goal.invariant-loop-i
invariant-loop-i g l = NoneFrom (Op l.other) (take l.i (operands_of l.ctx l.op))
