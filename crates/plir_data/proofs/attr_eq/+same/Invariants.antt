use Rattle.std.proofs.Common.{◌≡◌, ◌≤◌, drop, map}
use Rattle.plir_data.specs.AttrDepth.{entries_bulk}
use Rattle.plir_data.specs.AttrEq.{items_eq, entries_eq}
use Rattle.plir_data.specs.AttrSeen.{attr_view}
use Rattle.plir_data.specs.AttrView.{items_of, entries_of}
use Rattle.plir_data.specs.DictSeen.{pairs_view}
use Rattle.plir_data.proofs.attr_eq.+same.Given as goal

abbrev pub invariant-are_same_items-items : goal.invariant-are_same_items-items
invariant-are_same_items-items g l =
    items_eq g.D.Attr.PartialEq.eq (items_of (map attr_view (drop l.one-index l.ones)))
    (items_of (map attr_view l.left)) ≡ items_eq g.D.Attr.PartialEq.eq (items_of (map attr_view l.ones))
    (items_of (map attr_view l.others))

abbrev pub invariant-are_same_dicts-entries : goal.invariant-are_same_dicts-entries
invariant-are_same_dicts-entries g l =
    (entries_eq g.D.Attr.PartialEq.eq (entries_of (pairs_view l.key-iterator)) (entries_of (pairs_view l.left)) ≡
    entries_eq g.D.Attr.PartialEq.eq (entries_of l.ones) (entries_of l.others)) ×
    (entries_bulk (pairs_view l.key-iterator) ≤ entries_bulk l.ones)
