use Rattle.plir_core.proofs.NewRegions.{IsMaking}
use Rattle.plir_core.proofs.arena.Arena.make_op_with_regions.Given as goal

abbrev pub invariant-loop-i : goal.invariant-loop-i
invariant-loop-i g l = IsMaking l.fn.self l.fn.value l.op l._i l.self
