use Rattle.std.proofs.Common.{◌↔◌, ◌≤◌, ◌+◌, ◌*◌, drop, map}
use Rattle.plir_data.specs.{AttrLive.AreEntriesLive, AttrSeen.attr_view, AttrView.items_of, AttrView.entries_of}
use Rattle.plir_data.specs.{DictSeen.pairs_view}
use Rattle.plir_attr_text.specs.{Terms.attrs_levels, Terms.entries_levels, Writable.attr_terms, Writable.entry_terms}
use Rattle.plir_attr_text.proofs.levels.+within.Given as goal

abbrev pub decreases-is_attr_within : goal.decreases-is_attr_within
decreases-is_attr_within g l = 2 * l.most

abbrev pub decreases-are_entries_within : goal.decreases-are_entries_within
decreases-are_entries_within g l = 2 * l.most + 1

abbrev pub decreases-are_items_within : goal.decreases-are_items_within
decreases-are_items_within g l = 2 * l.most + 1

abbrev pub invariant-are_items_within-items : goal.invariant-are_items_within-items
invariant-are_items_within-items g l =
    (attrs_levels (attr_terms l.types (items_of (map attr_view (drop l.item-index l.item-items)))) ≤ l.most) ↔
    (attrs_levels (attr_terms l.types (items_of (map attr_view l.item-items))) ≤ l.most)

abbrev pub invariant-are_entries_within-entries : goal.invariant-are_entries_within-entries
invariant-are_entries_within-entries g l =
    ((entries_levels (entry_terms l.types (entries_of (pairs_view l.key-iterator))) ≤ l.most) ↔
    (entries_levels (entry_terms l.types (entries_of l.attrs)) ≤ l.most)) ×
    AreEntriesLive g.D.OpSet.attr_handles l.types (entries_of (pairs_view l.key-iterator))
