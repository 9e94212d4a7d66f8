use Rattle.std.proofs.Common.{◌≡◌, ◌≤◌, ◌++◌, take, map}
use Rattle.plir_data.specs.AttrDepth.{entries_bulk}
use Rattle.plir_data.specs.AttrSeen.{attr_view}
use Rattle.plir_data.specs.DictSeen.{pairs_view}
use Rattle.plir_data.proofs.attr_clone.+copy.Given as goal

abbrev pub invariant-copy_of_items-items : goal.invariant-copy_of_items-items
invariant-copy_of_items-items g l = map attr_view l.copies.items ≡ map attr_view (take l.item-index l.item-items)

abbrev pub invariant-copy_of_dict-entries : goal.invariant-copy_of_dict-entries
invariant-copy_of_dict-entries g l = (pairs_view l.entries.items ++ pairs_view l.key-iterator ≡ l.dict) ×
    (entries_bulk (pairs_view l.key-iterator) ≤ entries_bulk l.dict)
