use Rattle.std.proofs.Common.{◌↔◌, ◌≤◌, drop, map}
use Rattle.plir_data.specs.AttrDepth.{entries_bulk}
use Rattle.plir_data.specs.AttrLive.{AreItemsLive, AreEntriesLive}
use Rattle.plir_data.specs.AttrSeen.{attr_view}
use Rattle.plir_data.specs.AttrView.{items_of, entries_of}
use Rattle.plir_data.specs.DictSeen.{pairs_view}
use Rattle.plir_data.proofs.+live.Given as goal

abbrev pub invariant-attribute_dict::AttributeDict::holds_live-entries :
    goal.invariant-attribute_dict::AttributeDict::holds_live-entries
invariant-attribute_dict::AttributeDict::holds_live-entries g l =
    let types = g.C.TypeStore.types l.ctx in
    (AreEntriesLive g.D.OpSet.attr_handles types (entries_of (pairs_view l.value-iterator)) ↔ AreEntriesLive
    g.D.OpSet.attr_handles types (entries_of l.self)) × (entries_bulk (pairs_view l.value-iterator) ≤ entries_bulk
    l.self)

abbrev pub invariant-attributes::VecAttr::is_live-items : goal.invariant-attributes::VecAttr::is_live-items
invariant-attributes::VecAttr::is_live-items g l =
    let types = g.C.TypeStore.types l.ctx in
    AreItemsLive g.D.OpSet.attr_handles types (items_of (map attr_view (drop l.item-index l.items))) ↔ AreItemsLive
    g.D.OpSet.attr_handles types (items_of (map attr_view l.items))
