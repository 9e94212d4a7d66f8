use Rattle.std.proofs.Common.{◌↔◌}
use Rattle.plir_data.specs.DictSeen.{pairs_view}
use Rattle.plir_roundtrip.specs.Readable.{HoldsOnly}
use Rattle.plir_roundtrip.specs.ReadableParts.{keys_with}
use Rattle.plir_roundtrip.proofs.entries.holds_only.Given as goal

abbrev pub invariant-entries : goal.invariant-entries
invariant-entries g l =
    HoldsOnly (keys_with l.has_value) (pairs_view l.key-iterator) ↔ HoldsOnly (keys_with l.has_value) l.dict
