use Rattle.std.proofs.Common.{◌≡◌, Some, map, take}
use Rattle.plir_core.specs.ContextView.{operands_of, type_of_value, types_from}
use Rattle.plir_inline.proofs.fitting.fits.Given as goal

abbrev pub invariant-loop-i : goal.invariant-loop-i
invariant-loop-i g l =
    take l.i (map (type_of_value l.ctx) (operands_of l.ctx l.giver)) ≡ take l.i (map Some (types_from l.ctx l.owner))
