use Rattle.std.proofs.Common.{◌↔◌, ◌≤◌, ◌+◌, drop, map}
use Rattle.plir_data.specs.{AttrDepth.bulk, AttrDepth.items_bulk, AttrDepth.entries_bulk, AttrLive.AreEntriesLive}
use Rattle.plir_data.specs.{AttrSeen.attr_view, AttrView.items_of, AttrView.entries_of, DictSeen.pairs_view}
use Rattle.plir_attr_text.specs.Writable.{AreItemsWritable, AreEntriesWritable}
use Rattle.plir_attr_text.proofs.writable.+writable.Given as goal

abbrev pub decreases-is_attr_writable : goal.decreases-is_attr_writable
decreases-is_attr_writable g l = bulk (attr_view l.attr.now)

abbrev pub decreases-is_dict_writable : goal.decreases-is_dict_writable
decreases-is_dict_writable g l = entries_bulk l.attrs.now + 1

abbrev pub decreases-are_items_writable : goal.decreases-are_items_writable
decreases-are_items_writable g l = items_bulk (map attr_view l.list.now.items) + 1

abbrev pub invariant-are_items_writable-items : goal.invariant-are_items_writable-items
invariant-are_items_writable-items g l =
    AreItemsWritable l.types (items_of (map attr_view (drop l.item-index l.item-items))) ↔ AreItemsWritable l.types
    (items_of (map attr_view l.item-items))

abbrev pub invariant-is_dict_writable-entries : goal.invariant-is_dict_writable-entries
invariant-is_dict_writable-entries g l =
    (AreEntriesWritable l.types (entries_of (pairs_view l.key-iterator)) ↔ AreEntriesWritable l.types
    (entries_of l.attrs)) × AreEntriesLive g.D.OpSet.attr_handles l.types (entries_of (pairs_view l.key-iterator)) ×
    (entries_bulk (pairs_view l.key-iterator) ≤ entries_bulk l.attrs)
