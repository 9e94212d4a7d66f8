use Rattle.std.proofs.Common.{◌↔◌, ◌<◌, drop}
use Rattle.plir_core.specs.ContextView.{operands_of}
use Rattle.plir_roundtrip.specs.WrittenLevels.{value_levels}
use Rattle.plir_roundtrip.proofs.part_levels.are_operands_below.Given as goal

abbrev pub invariant-operands : goal.invariant-operands
invariant-operands g l =
    (value_levels l.ctx (drop l.place (operands_of l.ctx l.op)) < l.left) ↔
    (value_levels l.ctx (operands_of l.ctx l.op) < l.left)
