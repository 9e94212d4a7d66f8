use Rattle.std.proofs.Common.{ap, rules}
use Rattle.plir_data.specs.AttrDepth.{entries_bulk}
use Rattle.plir_data.specs.AttrSeen.{attr_view}
use Rattle.plir_data.specs.DepthLaws.{first_small}
use Rattle.plir_data.specs.DictSeen.{pairs_view}
use Rattle.plir_data.proofs.Bulk.{falls}
use Rattle.plir_data.proofs.+feed.Goals as goal

pub attribute_dict::AttributeDict::feed-feed-requires : goal.attribute_dict::AttributeDict::feed-feed-requires
attribute_dict::AttributeDict::feed-feed-requires g t c =
    let x = c.in-Some.value.now in
    let step = ap pairs_view c.in-Some.ensures.steps in
    let small = first_small (entries_bulk c.args.self.now) _ (pairs_view c.next.new.self)
    (c.in-Some.key.now, attr_view x) step c.entries.invariant.1 in
    let smaller = falls g.D.OpSet g.D.Attr.PartialEq g.D.Attr.Hash g.D.Attr.Debug g.D.Ty.PartialEq g.D.Ty.Hash
    g.D.Ty.Debug g.D.Err.Debug g.D.Err.Display x (entries_bulk c.args.self.now) small.0 in
    search rules
