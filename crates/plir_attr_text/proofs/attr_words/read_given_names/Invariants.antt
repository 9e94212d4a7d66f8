use Rattle.std.proofs.Common.{length}
use Rattle.plir_attr_text.specs.{Lists.separator_at, Lists.items_at, AttrReading.given_name_at, laws.Fronts.GoesOn}
use Rattle.plir_attr_text.proofs.attr_words.read_given_names.Given as goal

abbrev pub invariant-names : goal.invariant-names
invariant-names l = GoesOn (separator_at 93) given_name_at l.names.items l.rest (items_at 91 93 given_name_at l.bytes)

abbrev pub decreases-names : goal.decreases-names
decreases-names l = length l.rest
