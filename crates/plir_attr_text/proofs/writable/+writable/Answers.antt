use Rattle.std.proofs.Common.{◌≡◌, ◌↔◌, ◌∙◌, ◌∷◌, ◌≤◌, true, ap, sym, subst, refl, arith, rules}
use Rattle.plir_data.specs.AttrLive.{AreEntriesLive}
use Rattle.plir_data.specs.{AttrDepth.bulk, AttrDepth.entries_bulk, AttrSeen.attr_view, AttrView.entries_of}
use Rattle.plir_data.specs.{DepthLaws.first_small, DictSeen.pairs_view, Dictionary.IsDictionary, LiveLaws.first_live}
use Rattle.plir_attr_text.specs.Writable.{AreEntriesWritable}
use Rattle.plir_attr_text.proofs.Asked.{pairs_again, entry_passed, entry_failed}
use Rattle.plir_attr_text.proofs.Held.{entry_held, item_held}
use Rattle.plir_attr_text.proofs.writable.+writable.Goals as goal

pub is_dict_writable-entries-init : goal.is_dict_writable-entries-init
is_dict_writable-entries-init g t c =
    let types = c.args.types.now in
    let seen : pairs_view c.into_iter-key-iterator.result ≡ c.args.attrs.now =
    ap pairs_view c.into_iter-key-iterator.ensures.into_iter_gives ∙ c.iter-key-items.ensures.entries in (
      subst (λ es. AreEntriesWritable types (entries_of es) ↔ AreEntriesWritable types (entries_of c.args.attrs.now))
          (sym seen) (λ h. h, λ h. h),
      subst (λ es. AreEntriesLive g.D.OpSet.attr_handles types (entries_of es)) (sym seen) c.requires,
      subst (λ es. entries_bulk es ≤ entries_bulk c.args.attrs.now) (sym seen) (omega arith),
    )

pub is_dict_writable-is_attr_writable-requires : goal.is_dict_writable-is_attr_writable-requires
is_dict_writable-is_attr_writable-requires g t c =
    let inv = c.entries.invariant in
    let asked = entry_held g.D.OpSet.attr_handles c.args.types.now _ (pairs_view c.next.new.self)
    (c.in-Some.key.now, attr_view c.in-Some.value.now) (entries_bulk c.args.attrs.now)
    (ap pairs_view c.in-Some.ensures.steps) inv.1 inv.2 in
    search rules

pub is_dict_writable-entries-preserved : goal.is_dict_writable-entries-preserved
is_dict_writable-entries-preserved g t c =
    let types = c.args.types.now in
    let inv = c.entries.invariant in
    let left = pairs_view c.next.new.self in
    let step : pairs_view
    c.entries.key-iterator ≡ (c.in-Some.key.now, attr_view c.in-Some.value.now) ∷ left =
    ap pairs_view c.in-Some.ensures.steps in
    let passed : c.is_attr_writable.result ≡ true = cc in (
      entry_passed types (AreEntriesWritable types (entries_of c.args.attrs.now)) _ left
          (c.in-Some.key.now, attr_view c.in-Some.value.now) step (c.is_attr_writable.ensures.0 passed)
          inv.0,
      (first_live g.D.OpSet.attr_handles types _ left
          (c.in-Some.key.now, attr_view c.in-Some.value.now) step inv.1).1,
      (first_small (entries_bulk c.args.attrs.now) _ left
          (c.in-Some.key.now, attr_view c.in-Some.value.now) step inv.2).1,
    )

pub is_dict_writable-returns-then-not-is_attr_writable : goal.is_dict_writable-returns-then-not-is_attr_writable
is_dict_writable-returns-then-not-is_attr_writable g t c =
    let types = c.args.types.now in
    let left = pairs_view c.next.new.self in
    let step : pairs_view
    c.entries.key-iterator ≡ (c.in-Some.key.now, attr_view c.in-Some.value.now) ∷ left =
    ap pairs_view c.in-Some.ensures.steps in (
      λ h. absurd (let f : ⊥ = cc in f),
      λ w. absurd (entry_failed types (AreEntriesWritable types (entries_of c.args.attrs.now)) _ left
          (c.in-Some.key.now, attr_view c.in-Some.value.now) step
          (λ v. let passed : c.is_attr_writable.result ≡ true = c.is_attr_writable.ensures.1 v in let f : ⊥ = cc in f)
          c.entries.invariant.0 w.1),
    )

pub is_dict_writable-returns : goal.is_dict_writable-returns
is_dict_writable-returns g t c =
    let types = c.args.types.now in
    let whole = subst IsDictionary (sym (pairs_again c.args.attrs.now)) c.iter-key-items.ensures.whole in
    let all = c.entries.invariant.0.0
    (subst (λ es. AreEntriesWritable types (entries_of es)) (sym (ap pairs_view c.in-None.ensures.steps.0)) tt) in
    (λ h. (whole, all), λ w. refl)

pub are_items_writable-is_attr_writable-requires : goal.are_items_writable-is_attr_writable-requires
are_items_writable-is_attr_writable-requires g t c =
    let asked = item_held g.D.OpSet.attr_handles c.args.types.now c.args.list.now.items _ c.items.item-index
    c.item-item.result c.deref-item-items.ensures.value (omega arith) c.item-item.is c.requires in
    search rules
