use Rattle.std.proofs.Common.{length}
use Rattle.plir_attr_text.specs.Lists.{separator_at}
use Rattle.plir_attr_text.specs.AttrReading.{name_at}
use Rattle.plir_attr_text.specs.laws.Fronts.{GoesOn}
use Rattle.plir_read_own.specs.OwnReading.{names_at}
use Rattle.plir_read_own.proofs.openings.read_names.Given as goal

abbrev pub invariant-names : goal.invariant-names
invariant-names l = GoesOn (separator_at 61) name_at l.names.items l.rest (names_at l.bytes)

abbrev pub decreases-names : goal.decreases-names
decreases-names l = length l.rest
