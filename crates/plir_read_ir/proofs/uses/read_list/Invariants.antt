use Rattle.std.proofs.Common.{length}
use Rattle.plir_attr_text.specs.Lists.{separator_at}
use Rattle.plir_attr_text.specs.laws.Fronts.{GoesOn}
use Rattle.plir_read_own.specs.OwnReading.{closing_of, list_at, listed_at}
use Rattle.plir_read_ir.specs.Spelling.{words}
use Rattle.plir_read_ir.proofs.uses.read_list.Given as goal

abbrev pub invariant-names : goal.invariant-names
invariant-names l =
    GoesOn (separator_at (closing_of l.list)) (listed_at l.list) (words l.names.items) l.rest (list_at l.list l.bytes)

abbrev pub decreases-names : goal.decreases-names
decreases-names l = length l.rest
