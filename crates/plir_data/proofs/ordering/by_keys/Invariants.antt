use Rattle.std.proofs.Common.{◌≡◌}
use Rattle.plir_data.specs.DictSeen.{pairs_view}
use Rattle.plir_data.specs.Dictionary.{dict_put_all, dict_of}
use Rattle.plir_data.proofs.ordering.by_keys.Given as goal

-- what is in the map, with what is left put behind it, is all
abbrev pub invariant-entries : goal.invariant-entries
invariant-entries g l =
    dict_put_all (pairs_view l.map.entries) (pairs_view l.key-iterator.rest.items) ≡ dict_of
    (pairs_view l.fn.entries.items)
