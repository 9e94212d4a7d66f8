use Rattle.std.proofs.Common.{◌≡◌, ◌≤◌, ◌+◌, ◌++◌, drop, map, string_bytes, codes}
use Rattle.plir_data.specs.AttrDepth.{bulk, items_bulk, entries_bulk}
use Rattle.plir_data.specs.{AttrLive.AreEntriesLive, AttrView.entries_of, AttrSeen.attr_view, DictSeen.pairs_view}
use Rattle.plir_data.specs.{TextParts.parted, TextParts.parted_from}
use Rattle.plir_attr_text.specs.AttrText.{attr_text, entry_text}
use Rattle.plir_attr_text.proofs.print_attrs.+print.Given as goal

abbrev pub decreases-put_attr : goal.decreases-put_attr
decreases-put_attr g l = bulk (attr_view l.attr.now)

abbrev pub decreases-put_dict : goal.decreases-put_dict
decreases-put_dict g l = entries_bulk l.dict.now + 2

abbrev pub decreases-put_entries : goal.decreases-put_entries
decreases-put_entries g l = entries_bulk l.dict.now + 1

abbrev pub decreases-put_list : goal.decreases-put_list
decreases-put_list g l = items_bulk (map attr_view l.list.now.items) + 2

abbrev pub decreases-put_items : goal.decreases-put_items
decreases-put_items g l = items_bulk (map attr_view l.list.now.items) + 1

abbrev pub invariant-put_items-items : goal.invariant-put_items-items
invariant-put_items-items g l =
    let write = attr_text g.D.OpSet.attr_id g.D.OpSet.attr_text g.D.OpSet.type_id g.D.OpSet.type_body_text l.types in
    string_bytes l.out ++
    parted_from l.is_first (codes ", ") write (map attr_view (drop l.item-index l.item-items)) ≡ string_bytes l.fn.out
    ++
    parted (codes ", ") write (map attr_view l.item-items)

abbrev pub invariant-put_entries-entries : goal.invariant-put_entries-entries
invariant-put_entries-entries g l =
    let write = entry_text g.D.OpSet.attr_id g.D.OpSet.attr_text g.D.OpSet.type_id g.D.OpSet.type_body_text l.types in
    (string_bytes l.out ++ parted_from l.is_first (codes ", ") write (pairs_view l.key-iterator) ≡ string_bytes l.fn.out
    ++
    parted (codes ", ") write l.dict) × AreEntriesLive g.D.OpSet.attr_handles l.types
    (entries_of (pairs_view l.key-iterator)) ×
    (entries_bulk (pairs_view l.key-iterator) ≤ entries_bulk l.dict)
