use Rattle.std.proofs.Common.{length}
use Rattle.plir_attr_text.specs.{Lists.separator_at, Lists.items_at, AttrReading.size_at, laws.Fronts.GoesOn}
use Rattle.plir_attr_text.proofs.attr_words.read_sizes.Given as goal

abbrev pub invariant-sizes : goal.invariant-sizes
invariant-sizes l = GoesOn (separator_at 93) size_at l.sizes.items l.rest (items_at 91 93 size_at l.bytes)

abbrev pub decreases-sizes : goal.decreases-sizes
decreases-sizes l = length l.rest
