use Rattle.std.proofs.Common.{arith, rules}
use Rattle.plir_attr_text.proofs.Held.{item_held}
use Rattle.plir_attr_text.proofs.levels.+within.Goals as goal

pub are_items_within-is_attr_within-requires : goal.are_items_within-is_attr_within-requires
are_items_within-is_attr_within-requires g t c =
    let asked = item_held g.D.OpSet.attr_handles c.args.types.now c.args.list.now.items _ c.items.item-index
    c.item-item.result c.deref-item-items.ensures.value (omega arith) c.item-item.is c.requires in
    search rules
