-- What is asked before an attribute of a list, or of a dictionary, is visited: it is live, and smaller than the whole.
use Rattle.std.proofs.Common.{◌≡◌, ◌+◌, ◌<◌, ◌≤◌, ℕ, List, ◌∷◌, length, get_or, map, sym, subst, arith}
use Rattle.plir_data.specs.AttrLive.{IsAttrLive, AreItemsLive, AreEntriesLive}
use Rattle.plir_data.specs.AttrView.{AttrView, items_of, entries_of}
use Rattle.plir_data.specs.AttrDepth.{bulk, items_bulk, entries_bulk}
use Rattle.plir_data.specs.{AttrSeen.attr_view, Types.TypeView, declared.attributes.AttrObj.AttrObj, LiveLaws.item_live}
use Rattle.plir_data.specs.{LiveLaws.first_live, DepthLaws.item_small, DepthLaws.first_small}

module _ {A T : Type 0} (own_handles : A → List ℕ) (types : List (TypeView T)) where
  -- the item at a place, as it was read there
  pub item_held : {D K E : Type 0} (list items : List (AttrObj D K A T E)) (i : ℕ) (x : AttrObj D K A T E) →
      items ≡ list → i < length items → x ≡ get_or items i x →
      AreItemsLive own_handles types (items_of (map attr_view list)) →
      IsAttrLive own_handles types (attr_view x) × (bulk (attr_view x) < items_bulk (map attr_view list) + 1)
  item_held list items i x same lt is live =
      let held = subst (λ xs. AreItemsLive own_handles types (items_of (map attr_view xs))) (sym same) live in
      let small : bulk (attr_view x) < items_bulk (map attr_view items) + 1 =
      subst (λ y. bulk (attr_view y) < items_bulk (map attr_view items) + 1) (sym is)
      (omega (arith, item_small attr_view items i x lt)) in (
        subst (λ y. IsAttrLive own_handles types (attr_view y)) (sym is)
            (item_live own_handles types attr_view items i x lt held),
        subst (λ xs. bulk (attr_view x) < items_bulk (map attr_view xs) + 1) same small,
      )

  -- the attribute of the first entry of those that are left
  pub entry_held : (es left : List (List ℕ × AttrView A)) (e : List ℕ × AttrView A) (most : ℕ) → es ≡ e ∷ left →
      AreEntriesLive own_handles types (entries_of es) → entries_bulk es ≤ most →
      IsAttrLive own_handles types e.1 × (bulk e.1 < most + 1)
  entry_held es left e most step live small = (
    (first_live own_handles types es left e step live).0,
    omega (arith, (first_small most es left e step small).0),
  )
