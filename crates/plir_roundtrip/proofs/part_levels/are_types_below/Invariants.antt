use Rattle.std.proofs.Common.{◌↔◌, ◌<◌, drop}
use Rattle.plir_print.specs.ValueNames.{values_from}
use Rattle.plir_roundtrip.specs.WrittenLevels.{value_levels}
use Rattle.plir_roundtrip.proofs.part_levels.are_types_below.Given as goal

abbrev pub invariant-places : goal.invariant-places
invariant-places g l =
    (value_levels l.ctx (drop l.place (values_from l.ctx l.entity)) < l.left) ↔
    (value_levels l.ctx (values_from l.ctx l.entity) < l.left)
