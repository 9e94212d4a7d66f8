use Rattle.std.proofs.Common.{arith, rules, ap, sym, ◌∙◌}
use Rattle.plir_data.specs.AttrDepth.{entries_bulk}
use Rattle.plir_data.specs.AttrSeen.{attr_view}
use Rattle.plir_data.specs.DepthLaws.{first_small}
use Rattle.plir_data.specs.DictSeen.{pairs_view}
use Rattle.plir_data.proofs.Bulk.{falls}
use Rattle.plir_data.proofs.Equality.{nothing_left}
use Rattle.plir_data.proofs.attr_eq.+same.Goals as goal

pub are_same_items-returns : goal.are_same_items-returns
are_same_items-returns g t c =
    c.is_empty.ensures ∙ sym (nothing_left g.D.Attr.PartialEq.eq attr_view c.args.ones.now c.items.left.now
    c.items.one-index (omega (arith, c.items-test.false))) ∙ c.items.invariant

pub are_same_dicts-is_same-requires : goal.are_same_dicts-is_same-requires
are_same_dicts-is_same-requires g t c =
    let x = c.in-Some.one.now in
    let step = ap pairs_view c.in-Some.ensures.steps in
    let small = first_small (entries_bulk c.args.ones.now) _ (pairs_view c.next.new.self)
    (c.in-Some.key.now, attr_view x) step c.entries.invariant.1 in
    let smaller = falls g.D.OpSet g.D.Attr.PartialEq g.D.Attr.Hash g.D.Attr.Debug g.D.Ty.PartialEq g.D.Ty.Hash
    g.D.Ty.Debug g.D.Err.Debug g.D.Err.Display x (entries_bulk c.args.ones.now) small.0 in
    search rules
