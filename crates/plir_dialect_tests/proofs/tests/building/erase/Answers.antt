use Rattle.std.proofs.Common.{refl}
use Rattle.plir_dialect_tests.proofs.tests.building.erase.Goals as goal

pub erase-requires-clause-unused : goal.erase-requires-clause-unused
erase-requires-clause-unused g c = c.if-not-is_unused_outside.ensures.value.0 refl
