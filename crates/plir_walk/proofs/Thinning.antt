-- Erasures, one after another, of trees and of leaves.
use Rattle.std.proofs.Common.{◌≡◌, ℕ, zero, suc, Bool, true, false, not, [], Option, Some, inl, inr}
use Rattle.std.proofs.Common.{refl, sym, ◌∙◌, ap, subst}
use Rattle.std.proofs.lemmas.Bool.{false≢true}
use Rattle.std.proofs.lemmas.Option.{same_Some}
use Rattle.plir_store.specs.Members.{Has}
use Rattle.plir_data.specs.declared.op_set.OpKind.{OpKind}
use Rattle.plir_core.specs.Above.{climb, Reaches}
use Rattle.plir_core.specs.Erase.{IsErased, LosesOneChild, tree_of}
use Rattle.plir_core.specs.Forest.{look, IsForest}
use Rattle.plir_core.specs.ContextView.{ContextView, IsLive, is_live, children, parent_of, kind_of}
use Rattle.plir_core.specs.Unused.{without_tree}
use Rattle.plir_core.specs.declared.ptr.Ptr.{Ptr}
use Rattle.plir_core.specs.declared.ptr.Operation.{Operation as OperationKind}
use Rattle.plir_core.specs.declared.ptr.IRNode.{IRNode}
use Rattle.plir_core.specs.declared.ptr.IRNode.TheVariants.{Operation}
use Rattle.plir_walk.specs.ThinnedLaws.{thinned-none, kinds-both}
use Rattle.plir_walk.specs.Thinned.{IsThinned, IsThinnedOf, IsThinnedBelow}
use Rattle.plir_walk.specs.NodeLaws.{filter-agree}
use Rattle.plir_walk.specs.Tree.{same}
use Rattle.plir_walk.proofs.Nodes.{same_tells}
use Rattle.plir_walk.proofs.Climbs.{climb-split}
use Rattle.plir_walk.proofs.Lawfulness.{lawful-none, lawful-then, lawful-erased}

module _ {K A T : Type 0} where
  module _ (s t : ContextView K A T) (n : IRNode) (w : IsForest (look s)) (loses : LosesOneChild s.nodes t.nodes n)
      (e : IsErased s.nodes t.nodes n) (after : t ≡ without_tree s n) where
    -- what is left does not stand below n
    apart : (m : IRNode) → IsLive t m → Reaches (parent_of s) m n → ⊥
    apart m l r = false≢true (sym (e.gone m r) ∙ l)

    -- nor does a child of it but n
    child-apart : (m : IRNode) → IsLive t m → (x : IRNode) → Has (children s m) x → (x ≡ n → ⊥) → (k : ℕ) → climb
        (parent_of s) k (Some x) ≡ Some n → ⊥
    child-apart m l x h ne zero c = ne (same_Some x n c)
    child-apart m l x h ne (suc k) c = apart m l (k, ap (climb (parent_of s) k) (sym (w.child_parent m x h)) ∙ c)

    -- the test that tells n from all other nodes
    abbrev is_other : IRNode → Bool
    is_other x = not (same n x)

    not-itself : is_other n ≡ false
    not-itself = elim (same_tells n n) [ inl d ↦ ap not d.0 | inr d ↦ absurd (d.1 refl) ]

    others : (x : IRNode) → (x ≡ n → ⊥) → is_other x ≡ true
    others x ne = elim (same_tells n x) [ inl d ↦ absurd (ne (sym d.1)) | inr d ↦ ap not d.0 ]

    -- of the children of what is left n alone is gone
    agree : (m : IRNode) → IsLive t m → (x : IRNode) → Has (children s m) x → is_other x ≡ is_live t x
    agree m l x h = elim (same_tells n x) [
      | inl d ↦ ap not d.0 ∙ sym (subst (λ y. is_live t y ≡ false) d.1 (e.gone n (zero, refl)))
      | inr d ↦ ap not d.0 ∙ sym (e.live x (λ r. child-apart m l x h (λ q. d.1 (sym q)) r.0 r.1) ∙ w.child_live m x h)
    ]

    pub thinned-erased : IsThinned s t
    thinned-erased = record {
      gone = tree_of s.nodes n;
      after = after;
      count = e.count;
      old = λ m l. sym (e.live m (apart m l)) ∙ l;
      children = λ m l. loses is_other not-itself others m (apart m l) ∙ filter-agree is_other (is_live t)
          (children s m) (agree m l);
      parents = λ m l. e.parents m (apart m l);
      ops = λ p l. e.ops p l;
      blocks = λ p l. e.blocks p l;
      types = ap (λ z. z.types) after;
      limit = e.limit;
      given = e.given;
    }

  module _ (kinds : Option (OpKind K) → Bool) where
    pub below-none : (n : IRNode) (s : ContextView K A T) → IsForest (look s) → IsThinnedBelow kinds n s s
    below-none n s w = record {
      thinned = record { thinned = thinned-none s w; stays = λ m l f. l };
      lawful = lawful-none (look s) n;
      forest = w;
    }

    module _ (s t : ContextView K A T) (p : Ptr OperationKind) (w : IsForest (look s))
        (loses : LosesOneChild s.nodes t.nodes (Operation p))
        (leaf : children s (Operation p) ≡ []) (of_kind : kinds (kind_of s p) ≡ true)
        (after : t ≡ without_tree s (Operation p)) (e : IsErased s.nodes t.nodes (Operation p)) where
      -- only the leaf itself stands at or below it
      alone : (m : IRNode) (k : ℕ) → climb (parent_of s) k (Some m) ≡ Some (Operation p) → m ≡ Operation p
      alone m zero c = same_Some m (Operation p) c
      alone m (suc k) c =
          let r = climb-split (look s) k m (Operation p) c in
          absurd (subst (λ xs. Has xs r.0) leaf (w.parent_child (Operation p) r.0 r.2))

      leaf-thins : IsThinnedOf kinds s t
      leaf-thins = record {
        thinned = thinned-erased s t (Operation p) w loses e after;
        stays = λ m l no. e.live m (λ r. no (p, alone m r.0 r.1, of_kind)) ∙ l;
      }

      pub below-more : (n : IRNode) (r : ContextView K A T) → parent_of s (Operation p) ≡ Some n → IsThinnedBelow kinds
          n r s → IsThinnedBelow kinds n r t
      below-more n r here h = record {
        thinned = kinds-both kinds r s t h.thinned leaf-thins;
        lawful = lawful-then (look r) (look s) (look t) n h.forest h.lawful (lawful-erased s t n (Operation p) (0, here)
            e);
        forest = h.forest;
      }
