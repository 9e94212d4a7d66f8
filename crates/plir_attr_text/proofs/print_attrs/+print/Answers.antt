use Rattle.std.proofs.Common.{◌≡◌, ℕ, ◌∙◌, ◌++◌, List, ◌∷◌, ◌+◌, ◌<◌, ◌≤◌, length, get_or, codes, ap, sym, subst, arith}
use Rattle.std.proofs.Common.{rules, map, drop, string_bytes}
use Rattle.std.proofs.lemmas.List.{drop_all, drop_more}
use Rattle.plir_data.specs.{AttrDepth.bulk, AttrDepth.entries_bulk, AttrLive.AreEntriesLive, AttrSeen.attr_view}
use Rattle.plir_data.specs.{AttrView.items_of, AttrView.entries_of, DepthLaws.first_small, DictSeen.pairs_view}
use Rattle.plir_data.specs.{LiveLaws.first_live, declared.attributes.AttrObj.AttrObj, TextParts.parted, TextLaws.three}
use Rattle.plir_data.specs.{TextLaws.turn, TextLaws.ended}
use Rattle.plir_attr_text.specs.AttrText.{attr_text, entry_text, items_text, entries_text}
use Rattle.plir_attr_text.proofs.{Joins.items_parted, Joins.entries_parted, Held.entry_held, Held.item_held}
use Rattle.plir_attr_text.proofs.print_attrs.+print.Goals as goal

-- what is left of a list, seen, begins with the item that comes next
left_items : {D K A T E : Type 0} (xs : List (AttrObj D K A T E)) (i : ℕ) (d x : AttrObj D K A T E) → i < length xs →
    x ≡ get_or xs i d → map attr_view (drop i xs) ≡ attr_view x ∷ map attr_view (drop (i + 1) xs)
left_items xs i d x lt e = ap (map attr_view) (drop_more xs i d lt) ∙
    ap (λ y. attr_view y ∷ map attr_view (drop (i + 1) xs)) (sym e)

pub put_dict-returns : goal.put_dict-returns
put_dict-returns g t c =
    let text = entries_text g.D.OpSet.attr_id g.D.OpSet.attr_text g.D.OpSet.type_id g.D.OpSet.type_body_text
    c.args.types.now (entries_of c.args.dict.now) in
    three (string_bytes c.args.out.now) (codes "builtin.dict [") text (codes "]") c.in_ok-put.ensures.ok
    c.in_ok-put_entries.ensures c.in_ok-put-2.ensures.ok

pub put_list-returns : goal.put_list-returns
put_list-returns g t c =
    let text = items_text g.D.OpSet.attr_id g.D.OpSet.attr_text g.D.OpSet.type_id g.D.OpSet.type_body_text
    c.args.types.now (items_of (map attr_view c.args.list.now.items)) in
    three (string_bytes c.args.out.now) (codes "builtin.vec [") text (codes "]") c.in_ok-put.ensures.ok
    c.in_ok-put_items.ensures c.in_ok-put-2.ensures.ok

pub put_entries-entries-init : goal.put_entries-entries-init
put_entries-entries-init g t c =
    let write = entry_text g.D.OpSet.attr_id g.D.OpSet.attr_text g.D.OpSet.type_id g.D.OpSet.type_body_text
    c.args.types.now in
    let seen : pairs_view c.into_iter-key-iterator.result ≡ c.args.dict.now =
    ap pairs_view c.into_iter-key-iterator.ensures.into_iter_gives ∙ c.iter-key-items.ensures.entries in (
      ap (λ es. string_bytes c.args.out.now ++ parted (codes ", ") write es) seen,
      subst (λ es. AreEntriesLive g.D.OpSet.attr_handles c.args.types.now (entries_of es)) (sym seen) c.requires,
      subst (λ es. entries_bulk es ≤ entries_bulk c.args.dict.now) (sym seen) (omega arith),
    )

pub put_entries-put_attr-requires : goal.put_entries-put_attr-requires
put_entries-put_attr-requires g t c =
    let inv = c.entries.invariant in
    let asked = entry_held g.D.OpSet.attr_handles c.args.types.now _ (pairs_view c.next.new.self)
    (c.in-Some.key.now, attr_view c.in-Some.value.now) (entries_bulk c.args.dict.now)
    (ap pairs_view c.in-Some.ensures.steps) inv.1 inv.2 in
    search rules

pub put_entries-entries-preserved : goal.put_entries-entries-preserved
put_entries-entries-preserved g t c =
    let types = c.args.types.now in
    let l = c.entries in
    let inv = l.invariant in
    let write = entry_text g.D.OpSet.attr_id g.D.OpSet.attr_text g.D.OpSet.type_id g.D.OpSet.type_body_text types in
    let k = c.in-Some.key.now in
    let x = attr_view c.in-Some.value.now in
    let left = pairs_view c.next.new.self in
    let step : pairs_view l.key-iterator ≡ (k, x) ∷ left = ap pairs_view c.in-Some.ensures.steps in
    let key = c.in_ok-put.ensures.ok ∙ ap (λ w. string_bytes c.put_between.new.out ++ w) c.as_str.ensures.text in
    let text = attr_text g.D.OpSet.attr_id g.D.OpSet.attr_text g.D.OpSet.type_id g.D.OpSet.type_body_text types in
    let pair = three (string_bytes c.put_between.new.out) k (codes " = ") (text x) key c.in_ok-put-2.ensures.ok
    c.in_ok-put_attr.ensures in
    let written = turn (codes ", ") write l.is_first _ _ _ _ (k, x) (pairs_view l.key-iterator) left
    c.in_ok-put_between.ensures.ok pair step inv.0 in (
      written,
      (first_live g.D.OpSet.attr_handles types _ left (k, x) step inv.1).1,
      (first_small (entries_bulk c.args.dict.now) _ left (k, x) step inv.2).1,
    )

pub put_entries-returns : goal.put_entries-returns
put_entries-returns g t c =
    let l = c.entries in
    let write = entry_text g.D.OpSet.attr_id g.D.OpSet.attr_text g.D.OpSet.type_id g.D.OpSet.type_body_text
    c.args.types.now in
    ended (codes ", ") write l.is_first _ _ (pairs_view l.key-iterator) (ap pairs_view c.in-None.ensures.steps.0)
    l.invariant.0 ∙
    ap (λ bytes. string_bytes c.args.out.now ++ bytes)
    (sym (entries_parted g.D.OpSet.attr_id g.D.OpSet.attr_text g.D.OpSet.type_id g.D.OpSet.type_body_text
    c.args.types.now c.args.dict.now))

pub put_items-put_attr-requires : goal.put_items-put_attr-requires
put_items-put_attr-requires g t c =
    let asked = item_held g.D.OpSet.attr_handles c.args.types.now c.args.list.now.items _ c.items.item-index
    c.item-item.result c.deref-item-items.ensures.value (omega arith) c.item-item.is c.requires in
    search rules

pub put_items-items-preserved : goal.put_items-items-preserved
put_items-items-preserved g t c =
    let l = c.items in
    let xs = c.deref-item-items.result.now in
    let write = attr_text g.D.OpSet.attr_id g.D.OpSet.attr_text g.D.OpSet.type_id g.D.OpSet.type_body_text
    c.args.types.now in
    let x = c.item-item.result in
    let step = left_items xs l.item-index x x (omega arith) c.item-item.is in
    turn (codes ", ") write l.is_first _ _ _ _ (attr_view x) (map attr_view (drop l.item-index xs))
    (map attr_view (drop (l.item-index + 1) xs)) c.in_ok-put_between.ensures.ok c.in_ok-put_attr.ensures step
    l.invariant

pub put_items-returns : goal.put_items-returns
put_items-returns g t c =
    let l = c.items in
    let xs = c.deref-item-items.result.now in
    let write = attr_text g.D.OpSet.attr_id g.D.OpSet.attr_text g.D.OpSet.type_id g.D.OpSet.type_body_text
    c.args.types.now in
    ended (codes ", ") write l.is_first _ _ (map attr_view (drop l.item-index xs))
    (ap (map attr_view) (drop_all l.item-index xs (omega arith))) l.invariant ∙
    ap (λ ys. string_bytes c.args.out.now ++ parted (codes ", ") write (map attr_view ys))
    c.deref-item-items.ensures.value
    ∙ ap (λ bytes. string_bytes c.args.out.now ++ bytes)
    (sym (items_parted g.D.OpSet.attr_id g.D.OpSet.attr_text g.D.OpSet.type_id g.D.OpSet.type_body_text
    c.args.types.now (map attr_view c.args.list.now.items)))
