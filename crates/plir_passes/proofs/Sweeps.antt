-- Dead operations are erased one after another.
use Rattle.std.proofs.Common.{◌≡◌, ◌<◌, ℕ, zero, suc, arith, Bool, true, false, cond, List, [], ◌∷◌, ◌++◌, map, Some}
use Rattle.std.proofs.Common.{inl, inr, refl, sym, ap, subst, ◌∙◌, slice_get}
use Rattle.std.specs.List.{flat_map}
use Rattle.std.proofs.lemmas.Bool.{false_from_ne_true}
use Rattle.plir_store.specs.Members.{Has}
use Rattle.plir_store.specs.MemberLaws.{Has-append_left, Has-append_right, Has-append_cases, Has-map}
use Rattle.plir_store.specs.Lists.{children_at}
use Rattle.plir_store.specs.FilterLaws.{not-both}
use Rattle.plir_core.specs.declared.ptr.Ptr.{Ptr}
use Rattle.plir_core.specs.declared.ptr.Operation.{Operation as OperationKind}
use Rattle.plir_core.specs.declared.ptr.IRNode.{IRNode}
use Rattle.plir_core.specs.declared.ptr.IRNode.TheVariants.{Operation}
use Rattle.plir_core.specs.Above.{Reaches}
use Rattle.plir_core.specs.Erase.{IsErased, post_order, without_nodes}
use Rattle.plir_core.specs.Forest.{look, IsForest}
use Rattle.plir_core.specs.Measures.{most_steps}
use Rattle.plir_core.specs.Nodes.{node_children, region_node}
use Rattle.plir_core.specs.Unused.{without_tree}
use Rattle.plir_core.specs.ContextView.{ContextView, IsLive, is_live, parent_of, kind_in, operands_in}
use Rattle.plir_walk.specs.NodeLaws.{op-tells, reach-leaf}
use Rattle.plir_walk.specs.Thinned.{IsThinned}
use Rattle.plir_walk.specs.ThinnedLaws.{thinned-none, thinned-both}
use Rattle.plir_passes.specs.Legal.{is_kind}
use Rattle.plir_passes.specs.Dead.{is_removable, IsUsedBy, AreDead}
use Rattle.plir_passes.specs.Swept.{IsSwept, without_op, without_ops}

-- among images that are no operations there is no operation
no-op-image : (b : Bool) (is : List ℕ) (f : ℕ → IRNode) → ((i : ℕ) (p : Ptr OperationKind) → f i ≡ Operation p → ⊥)
    → (p : Ptr OperationKind) → Has (cond b (map f is) []) (Operation p) → ⊥
no-op-image true is f each p h = (let r = Has-map f is (Operation p) h in each r.0 p r.1.1)
no-op-image false is f each p h = h

module _ {K A T : Type 0} (effect ends : K → Bool) where
  pub swept-none : (s : ContextView K A T) → IsForest (look s) → IsSwept effect ends s s
  swept-none s w = record {
    gone = [];
    dead = tt;
    away = λ p h. absurd h;
    after = refl;
    left = λ n l. inl l;
    regions = λ p l. refl;
    thinned = thinned-none s w;
  }

  -- some go, and then others
  ops-append : (s : ContextView K A T) (ps qs : List (Ptr OperationKind))
      → without_ops s (ps ++ qs) ≡ without_ops (without_ops s qs) ps
  ops-append s [] qs = refl
  ops-append s (p ∷ ps) qs = ap (λ (z : ContextView K A T). without_op z p) (ops-append s ps qs)

  module _ (s t : ContextView K A T) (f : IsSwept effect ends s t) where
    -- an operation of t that is used by some alone was used by them and those that are gone
    used-before : (ps : List (Ptr OperationKind)) (p : Ptr OperationKind) → IsUsedBy effect ends t ps p
        → IsUsedBy effect ends s (ps ++ f.gone) p
    used-before ps p d = record {
      live = f.thinned.old (Operation p) d.live;
      removable = ap (λ z. is_kind (is_removable effect ends) (kind_in z)) (sym (f.thinned.ops p d.live)) ∙ d.removable;
      no_region = sym (f.regions p d.live) ∙ d.no_region;
      users = λ q l ne u. elim (f.left (Operation q) l) [
        | inl k ↦ Has-append_left ps f.gone q (d.users q k ne (record {
          place = u.place;
          index = u.index;
          here = ap (λ z. slice_get (operands_in z) u.place) (f.thinned.ops q k) ∙ u.here;
        }))
        | inr g ↦ Has-append_right ps f.gone q (subst (Has f.gone) (same-op g.0 q g.1) g.2)
      ];
    }
      where
        same-op : (p q : Ptr OperationKind) → Operation q ≡ Operation p → p ≡ q
        same-op p q e = cc e

    dead-before : (ps : List (Ptr OperationKind)) → AreDead effect ends t ps → AreDead effect ends s (ps ++ f.gone)
    dead-before [] d = f.dead
    dead-before (p ∷ ps) d = (used-before ps p d.0, dead-before ps d.1)

    pub swept-then : (u : ContextView K A T) → IsSwept effect ends t u → IsSwept effect ends s u
    swept-then u g = record {
      gone = g.gone ++ f.gone;
      dead = dead-before g.gone g.dead;
      after =
          g.after ∙ ap (λ (z : ContextView K A T). without_ops z g.gone) f.after ∙ sym (ops-append s g.gone f.gone);
      away = λ p h. elim (Has-append_cases g.gone f.gone p h) [
        | inl k ↦ g.away p k
        | inr k ↦ false_from_ne_true (is_live u (Operation p))
            (λ l. not-both (is_live t (Operation p)) (g.thinned.old (Operation p) l) (f.away p k))
      ];
      left = λ n l. elim (f.left n l) [
        | inl k ↦ elim (g.left n k) [ inl j ↦ inl j | inr j ↦ inr (j.0, j.1, Has-append_left g.gone f.gone j.0 j.2) ]
        | inr j ↦ inr (j.0, j.1, Has-append_right g.gone f.gone j.0 j.2)
      ];
      regions = λ p l. g.regions p l ∙ f.regions p (g.thinned.old (Operation p) l);
      thinned = thinned-both s t u f.thinned g.thinned;
    }

  -- one that is dead is erased
  module _ (s t : ContextView K A T) (p : Ptr OperationKind) (w : IsForest (look s)) (d : IsUsedBy effect ends s [] p)
      (e : IsErased s.nodes t.nodes (Operation p))
      (thin : IsThinned s t) (freed : t ≡ without_tree s (Operation p)) where
    abbrev x : IRNode
    x = Operation p

    apart : (n : IRNode) → (n ≡ x → ⊥) → Reaches (parent_of s) n x → ⊥
    apart n ne r = ne (reach-leaf s x w d.no_region r.0 n r.1)

    gone-now : is_live t x ≡ false
    gone-now = e.gone x (zero, refl)

    pub live-apart : (n : IRNode) → IsLive t n → n ≡ x → ⊥
    live-apart n k is = not-both (is_live t x) (subst (IsLive t) is k) gone-now

    -- it stands in no operation, whose children are regions
    in-block : (q : Ptr OperationKind) → parent_of s x ≡ Some (Operation q) → ⊥
    in-block q h = no-op-image (is_live s (Operation q)) (children_at s.nodes.regions_in_op q.slot)
        (region_node s.nodes) (λ i r f. cc f) p (w.parent_child (Operation q) x h)

    -- each other node stays
    pub others-stay : (n : IRNode) → IsLive s n → (n ≡ x → ⊥) → IsLive t n
    others-stay n l ne = e.live n (apart n ne) ∙ l

    -- the tree of an operation without regions is that operation
    alone : (k : ℕ) → 0 < k → post_order (node_children s.nodes) k x ≡ x ∷ []
    alone zero h = absurd (omega (arith, h))
    alone (suc k) h = ap (λ z. flat_map (post_order (node_children s.nodes) k) z ++ x ∷ []) d.no_region

    after : t ≡ without_op s p
    after =
        freed ∙ ap (λ (ns : List IRNode). record s { nodes = without_nodes s.nodes ns })
        (alone (most_steps s.nodes) (omega arith))

    pub swept-erased : IsSwept effect ends s t
    swept-erased = record {
      gone = p ∷ [];
      dead = (d, tt);
      after = after;
      away = λ q h. elim h [ inl is ↦ subst (λ z. is_live t (Operation z) ≡ false) is gone-now | inr nay ↦ absurd nay ];
      left = λ n l. elim (op-tells n p) [
        | inl is ↦ inr (p, is.1, inl refl)
        | inr ne ↦ inl (others-stay n l ne.1)
      ];
      regions = λ q k. e.children (Operation q) (apart (Operation q) (live-apart (Operation q) k)) (in-block q);
      thinned = thin;
    }
