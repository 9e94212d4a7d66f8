-- An attribute that is written means one attribute at most.
use Rattle.std.proofs.Common.{◌≡◌, ℕ, List, ◌∷◌, sym, ap, subst, ◌∙◌}
use Rattle.plir_data.specs.Types as types
use Rattle.plir_data.specs.Types.{TypeView, IsTypeTable}
use Rattle.plir_data.specs.AttrView as views
use Rattle.plir_data.specs.{AttrView.AttrView, Dictionary.dict_of}
use Rattle.plir_attr_text.specs.Terms as terms
use Rattle.plir_attr_text.specs.Terms.{AttrTerm, AttrTerms, no_attrs, attr_before, EntryTerms, no_entries, entry_before}
use Rattle.plir_attr_text.specs.Meaning.{IsMeant, AreMeant, AreEntriesMeant, StandsFor}
use Rattle.plir_attr_text.specs.{laws.AttrsAgain.one_attr, laws.SameNames.same_handle}

module _ {A T : Type 0} (own_handles : T → List ℕ) (table : List (TypeView T)) (whole : IsTypeTable own_handles table)
  where
    mutual
      pub same_attr : (t : AttrTerm) (x y : AttrView A) → IsMeant table t x → IsMeant table t y → x ≡ y
      same_attr (terms.identifier w) x y m n = m ∙ sym n
      same_attr (terms.string s) x y m n = m ∙ sym n
      same_attr (terms.bool b) x y m n = m ∙ sym n
      same_attr (terms.integer s w b) x y m n = m.2 ∙
          ap (λ h. views.leaf (views.integer h w b)) (whole.once (types.integer s w) m.0 n.0 m.1 n.1) ∙ sym n.2
      same_attr terms.unit x y m n = m ∙ sym n
      same_attr (terms.type t) x y m n = m.2 ∙
          ap (λ h. views.leaf (views.type_of h)) (same_handle own_handles table whole t m.0 n.0 m.1 n.1) ∙ sym n.2
      same_attr (terms.operand_segment_sizes ns) x y m n = m ∙ sym n
      same_attr (terms.given_names ns) x y m n = m ∙ sym n
      same_attr (terms.dict es) x y m n = m.2 ∙
          ap (λ ps. views.dict (views.entries_of (dict_of ps))) (same_entries es m.0 n.0 m.1 n.1) ∙ sym n.2
      same_attr (terms.vec ts) x y m n = m.2 ∙ ap (λ xs. views.vec (views.items_of xs)) (same_items ts m.0 n.0 m.1 n.1)
          ∙
          sym n.2

      same_items : (ts : AttrTerms) (xs ys : List (AttrView A)) → AreMeant table ts xs → AreMeant table ts ys → xs ≡ ys
      same_items no_attrs xs ys m n = m ∙ sym n
      same_items (attr_before t ts) xs ys m n = m.4 ∙ ap (λ x. x ∷ m.1) (same_attr t m.0 n.0 m.2 n.2) ∙
          ap (λ l. n.0 ∷ l) (same_items ts m.1 n.1 m.3 n.3) ∙ sym n.4

      same_entries : (es : EntryTerms) (ps qs : List (List ℕ × AttrView A)) → AreEntriesMeant table es ps →
          AreEntriesMeant table es qs → ps ≡ qs
      same_entries no_entries ps qs m n = m ∙ sym n
      same_entries (entry_before k t es) ps qs m n = m.4 ∙ ap (λ x. (k, x) ∷ m.1) (same_attr t m.0 n.0 m.2 n.2) ∙
          ap (λ l. (k, n.0) ∷ l) (same_entries es m.1 n.1 m.3 n.3) ∙ sym n.4

    -- a text stands for one attribute at most
    pub one_meaning : (m n : ℕ) (bytes : List ℕ) (x y : AttrView A) → StandsFor m table bytes x →
        StandsFor n table bytes y → x ≡ y
    one_meaning m n bytes x y s r =
        let same = one_attr m n bytes s.0 r.0 s.1 r.1 in
        same_attr r.0 x y (subst (λ t. IsMeant table t x) same s.2) r.2
