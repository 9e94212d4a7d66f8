-- The children that nodes have after an erasure: those before it, without the erased.
use Rattle.std.proofs.Common.{◌≡◌, Bool, true, false, List, ◌∷◌, ◌++◌, Option, Some, None, inl, inr, refl, sym, ◌∙◌, ap}
use Rattle.std.proofs.Common.{subst}
use Rattle.std.specs.List.{filter}
use Rattle.std.proofs.lemmas.Option.{same_Some, none-some}
use Rattle.plir_store.specs.FilterLaws.{filter-all, filter-without}
use Rattle.plir_store.specs.MemberLaws.{Distinct-cross, Distinct-right, Has-split}
use Rattle.plir_store.specs.Members.{Has, Distinct}
use Rattle.plir_core.specs.Above.{Reaches}
use Rattle.plir_core.specs.Erase.{IsErased}
use Rattle.plir_core.specs.Nodes.{Nodes, node_children, node_parent}
use Rattle.plir_core.specs.Stored.{IsStored}
use Rattle.plir_core.specs.declared.ptr.IRNode.{IRNode}
use Rattle.plir_core.proofs.Facts.{child-parent, children-once, parent-child}
use Rattle.plir_core.proofs.Leaves.{node-cases}

module _ {A : Type 0} (keeps : A → Bool) (n : A) (no : keeps n ≡ false) (yes : (x : A) → (x ≡ n → ⊥) → keeps x ≡ true)
  where
    -- a list without n is kept
    without : (xs : List A) → (Has xs n → ⊥) → filter keeps xs ≡ xs
    without xs h = filter-all keeps xs (λ x i. yes x (λ q. h (subst (Has xs) q i)))

    -- where n stands once, it alone is dropped
    once : (front back : List A) → Distinct (front ++ n ∷ back) → filter keeps (front ++ n ∷ back) ≡ front ++ back
    once front back d =
        filter-without keeps front back n no
        (λ x h. yes x (λ q. Distinct-cross front (n ∷ back) d n (subst (Has front) q h) (inl refl)))
        (λ x h. yes x (λ q. (Distinct-right front (n ∷ back) d).0 (subst (Has back) q h)))

module _ {O B : Type 0} (s t : Nodes O B) (n : IRNode) (w : IsStored s) (e : IsErased s t n) (keeps : IRNode → Bool)
    (no : keeps n ≡ false) (yes : (x : IRNode) → (x ≡ n → ⊥) → keeps x ≡ true) (m : IRNode)
    (stays : Reaches (node_parent s) m n → ⊥) where
  here : node_parent s n ≡ Some m → node_children t m ≡ filter keeps (node_children s m)
  here q =
      let r = Has-split (node_children s m) n (parent-child s w m n q) in
      let d : Distinct (r.0 ++ n ∷ r.1) = subst Distinct r.2 (children-once s w m) in
      e.children_over m r.0 r.1 r.2 ∙ sym (once keeps n no yes r.0 r.1 d) ∙ ap (filter keeps) (sym r.2)

  elsewhere : (node_parent s n ≡ Some m → ⊥) → node_children t m ≡ filter keeps (node_children s m)
  elsewhere q = e.children m stays q ∙ sym (without keeps n no yes (node_children s m)
      (λ h. q (child-parent s w m n h)))

  by_parent : (o : Option IRNode) → node_parent s n ≡ o → node_children t m ≡ filter keeps (node_children s m)
  by_parent None q = elsewhere (λ p. none-some m (sym q ∙ p))
  by_parent (Some a) q = elim (node-cases a m) [
    | inl i ↦ here (q ∙ ap Some i)
    | inr d ↦ elsewhere (λ p. d (same_Some a m (sym q ∙ p)))
  ]

  pub children-left : node_children t m ≡ filter keeps (node_children s m)
  children-left = by_parent (node_parent s n) refl
