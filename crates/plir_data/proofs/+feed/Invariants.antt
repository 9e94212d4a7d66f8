use Rattle.std.proofs.Common.{◌≡◌, ◌≤◌, drop, map}
use Rattle.plir_data.specs.AttrDepth.{entries_bulk}
use Rattle.std.specs.List.{fold}
use Rattle.plir_data.specs.AttrHash.{items_words, entries_words}
use Rattle.plir_data.specs.AttrSeen.{attr_view}
use Rattle.plir_data.specs.AttrView.{items_of, entries_of}
use Rattle.plir_data.specs.DictSeen.{pairs_view}
use Rattle.plir_data.proofs.+feed.Given as goal

abbrev pub invariant-attribute_dict::AttributeDict::feed-entries :
    goal.invariant-attribute_dict::AttributeDict::feed-entries
invariant-attribute_dict::AttributeDict::feed-entries g l =
    (fold g.H.Hasher.write l.state (entries_words g.D.Attr.Hash.hash_input (entries_of (pairs_view l.key-iterator))) ≡
    fold g.H.Hasher.write l.fn.state (entries_words g.D.Attr.Hash.hash_input (entries_of l.self))) ×
    (entries_bulk (pairs_view l.key-iterator) ≤ entries_bulk l.self)

abbrev pub invariant-attributes::VecAttr::feed-items : goal.invariant-attributes::VecAttr::feed-items
invariant-attributes::VecAttr::feed-items g l =
    fold g.H.Hasher.write l.state (items_words g.D.Attr.Hash.hash_input (items_of
    (map attr_view (drop l.item-index l.items)))) ≡ fold g.H.Hasher.write l.fn.state
    (items_words g.D.Attr.Hash.hash_input (items_of (map attr_view l.items)))
