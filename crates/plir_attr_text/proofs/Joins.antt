-- Lists and dictionaries as they are printed.
use Rattle.std.proofs.Common.{◌≡◌, ℕ, false, List, [], ◌∷◌, ◌++◌, refl, sym, ap, ◌∙◌, append_assoc}
use Rattle.std.specs.Prelude.{codes}
use Rattle.plir_data.specs.AttrView.{AttrView, items_of, entries_of}
use Rattle.plir_data.specs.{OwnParts.Part, Types.TypeView, TextParts.parted, TextParts.parted_from}
use Rattle.plir_attr_text.specs.AttrText.{attr_text, entry_text, items_text, more_items_text, entries_text}
use Rattle.plir_attr_text.specs.AttrText.{more_entries_text}

module _ {A T : Type 0} (own_id : A → List ℕ) (own_body : A → List Part) (type_id : T → List ℕ)
    (type_body : T → List Part) (table : List (TypeView T)) where
  abbrev text : AttrView A → List ℕ
  text x = attr_text own_id own_body type_id type_body table x

  abbrev pair_text : List ℕ × AttrView A → List ℕ
  pair_text e = entry_text own_id own_body type_id type_body table e

  more_items : (xs : List (AttrView A)) →
      more_items_text own_id own_body type_id type_body table (items_of xs) ≡ parted_from false (codes ", ") text xs
  more_items [] = refl
  more_items (x ∷ xs) = ap (λ bytes. 44 ∷ 32 ∷ (text x ++ bytes)) (more_items xs)

  pub items_parted : (xs : List (AttrView A)) →
      items_text own_id own_body type_id type_body table (items_of xs) ≡ parted (codes ", ") text xs
  items_parted [] = refl
  items_parted (x ∷ xs) = ap (λ bytes. text x ++ bytes) (more_items xs)

  regroup : (e : List ℕ × AttrView A) (a b : List ℕ) → a ≡ b → e.0 ++ (32 ∷ 61 ∷ 32 ∷ (text e.1 ++ a)) ≡ pair_text e ++
      b
  regroup e a b same = ap (λ bytes. e.0 ++ (32 ∷ 61 ∷ 32 ∷ (text e.1 ++ bytes))) same ∙
      sym (append_assoc e.0 (32 ∷ 61 ∷ 32 ∷ text e.1) b)

  more_entries : (es : List (List ℕ × AttrView A)) →
      more_entries_text own_id own_body type_id type_body table (entries_of es) ≡ parted_from false (codes ", ")
      pair_text es
  more_entries [] = refl
  more_entries (e ∷ es) = ap (λ bytes. 44 ∷ 32 ∷ bytes) (regroup e _ _ (more_entries es))

  pub entries_parted : (es : List (List ℕ × AttrView A)) →
      entries_text own_id own_body type_id type_body table (entries_of es) ≡ parted (codes ", ") pair_text es
  entries_parted [] = refl
  entries_parted (e ∷ es) = regroup e _ _ (more_entries es)
