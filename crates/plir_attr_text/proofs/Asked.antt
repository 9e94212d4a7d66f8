-- Whether a text can stand for a type or an attribute, asked of its parts.
use Rattle.std.proofs.Common.{◌≡◌, ◌↔◌, ℕ, Bool, true, false, List, [], ◌∷◌, Some, IsTrue, refl, sym, ap, subst, ◌∙◌}
use Rattle.plir_data.specs.TypeTree.{TypeTree, tree_over, tree_of}
use Rattle.plir_data.specs.{AttrView.AttrView, AttrView.entries_of, Laws.IsMadeOfTrees, Types.TypeView, Types.type_at}
use Rattle.plir_data.specs.{TypeSeen.type_view, declared.types.TypeObj.TypeObj}
use Rattle.plir_attr_text.specs.Writable.{IsWritable, AreEntriesWritable, pairs_of}

-- what is asked of the type of a handle, as it was read
pub asked_as : {D K A T E : Type 0} (P : TypeTree T → Type 0) (types : List (TypeView T)) → IsMadeOfTrees types →
    (h : ℕ) (x y : TypeObj D K A T E) (b : Bool) → type_at types h ≡ Some (type_view x) → x ≡ y →
    (IsTrue b ↔ P (tree_over (tree_of types) (type_view y))) → IsTrue b ↔ P (tree_of types h)
asked_as P types made h x y b at is asked =
    subst (λ t. IsTrue b ↔ P t) (sym (made h (type_view y) (at ∙ ap (λ z. Some (type_view z)) is))) asked

module _ {P Q : Type 0} (a : Bool) where
  -- of two tests the second is asked where the first is true
  pub both : (b : Bool) → (IsTrue a ↔ P) → (IsTrue b ↔ Q) → a ≡ true → IsTrue b ↔ (P × Q)
  both b p q e = (λ t. (p.0 e, q.0 t), λ r. q.1 r.1)

  pub not_both : (IsTrue a ↔ P) → a ≡ false → IsTrue a ↔ (P × Q)
  not_both p e = (λ t. absurd (let f : ⊥ = cc in f), λ r. p.1 r.0)

-- the pairs of a dictionary's entries are those that the entries are of
pub pairs_again : {A : Type 0} (es : List (List ℕ × AttrView A)) → pairs_of (entries_of es) ≡ es
pairs_again [] = refl
pairs_again (e ∷ es) = ap (λ fs. e ∷ fs) (pairs_again es)

-- R, which what is left of a dictionary decides, is decided by what stands behind a writable entry, and is false at
-- another.
module _ {A T : Type 0} (types : List (TypeView T)) (R : Type 0) (es fs : List (List ℕ × AttrView A))
    (e : List ℕ × AttrView A) where
  pub entry_passed : es ≡ e ∷ fs → IsWritable types e.1 → (AreEntriesWritable types (entries_of es) ↔ R) →
      AreEntriesWritable types (entries_of fs) ↔ R
  entry_passed is first all =
      let h : (IsWritable types e.1 × AreEntriesWritable types (entries_of fs)) ↔ R =
      subst (λ l. AreEntriesWritable types (entries_of l) ↔ R) is all in
      (λ others. h.0 (first, others), λ r. (h.1 r).1)

  pub entry_failed : es ≡ e ∷ fs → (IsWritable types e.1 → ⊥) → (AreEntriesWritable types (entries_of es) ↔ R) → R → ⊥
  entry_failed is first all r =
      let h : (IsWritable types e.1 × AreEntriesWritable types (entries_of fs)) ↔ R =
      subst (λ l. AreEntriesWritable types (entries_of l) ↔ R) is all in
      first (h.1 r).0
