-- A lawful call at a node is lawful at each node that it stands under.
use Rattle.std.proofs.Common.{◌≡◌, ◌≢◌, ℕ, zero, suc, ◌+◌, true, false, List, Some, ◌⊎◌, inl, inr, refl, sym, ap, subst}
use Rattle.std.proofs.Common.{◌∙◌, arith}
use Rattle.std.proofs.lemmas.Option.{same_Some}
use Rattle.plir_store.specs.Members.{Has}
use Rattle.plir_core.specs.declared.ptr.IRNode.{IRNode}
use Rattle.plir_core.specs.Above.{climb, Reaches}
use Rattle.plir_core.specs.Forest.{Shape, IsBelow, IsForest}
use Rattle.plir_walk.specs.Lawful.{Lawful}
use Rattle.plir_walk.proofs.Climbs.{climb-bottom, climb-split, not-below-itself}
use Rattle.plir_walk.proofs.Lawfulness.{climb-plus}
use Rattle.plir_walk.proofs.Nodes.{same_tells}

-- what is above what is above a node is above it
reach-on : (s : Shape) (x n r : IRNode) → Reaches s.parent x n → Reaches s.parent n r → Reaches s.parent x r
reach-on s x n r h k = (k.0 + h.0, climb-plus s k.0 h.0 (k.0 + h.0) x n r refl h.1 k.1)

-- what is below what is under a node is below it
below-on : (s : Shape) (x n r : IRNode) → IsBelow s n x → Reaches s.parent n r → IsBelow s r x
below-on s x n r h k = (k.0 + h.0, climb-plus s k.0 (suc h.0) (suc (k.0 + h.0)) x n r (omega arith) h.1 k.1)

module _ (s t : Shape) (n r : IRNode) (w : IsForest s) (l : Lawful s n t) (under : Reaches s.parent n r) where
  -- a node under r that is not n, nor below it
  record IsBeside (d : IRNode) : Type 0 where
    live : s.live d ≡ true
    apart : Reaches s.parent d n → ⊥
    under_root : Reaches s.parent d r

  -- what stands below such a node afterwards stood under r, or is new
  went-down : (k : ℕ) (m d : IRNode) → climb t.parent k (Some m) ≡ Some d → IsForest t → IsBeside d → Reaches s.parent m
      r ⊎ (s.given m ≡ false)
  went-down zero m d e w' b = inl (subst (λ z. Reaches s.parent z r) (sym (same_Some m d e)) b.under_root)
  went-down (suc k) m d e w' b =
      let z = climb-split t k m d e in
      let y : IRNode = z.0 in
      let same : t.children d ≡ s.children d = (l.kept d b.live
      (λ z. b.apart (suc z.0, z.1))).2 (λ z. b.apart (zero, ap Some z)) in
      let has : Has (s.children d) y = subst (λ (z : List IRNode). Has z y) same (w'.parent_child d y z.2) in
      let was : s.parent y ≡ Some d = w.child_parent d y has in
      elim (same_tells y n) [
        | inl h ↦ at-n k (z.1 ∙ ap Some h.1)
        | inr h ↦ went-down k m y z.1 w' (record {
          live = w.child_live d y has;
          apart = λ z. higher y was h.1 z.0 z.1;
          under_root = (suc b.under_root.0, climb-bottom s b.under_root.0 y d was ∙ b.under_root.1);
        })
      ]
    where
      at-n : (j : ℕ) → climb t.parent j (Some m) ≡ Some n → Reaches s.parent m r ⊎ (s.given m ≡ false)
      at-n zero h = inl (subst (λ z. Reaches s.parent z r) (sym (same_Some m n h)) under)
      at-n (suc j) h = elim (l.below m (j, h)) [ inl z ↦ inl (reach-on s m n r (suc z.0, z.1) under) | inr z ↦ inr z ]

      higher : (y : IRNode) → s.parent y ≡ Some d → y ≢ n → (j : ℕ) → climb s.parent j (Some y) ≡ Some n → ⊥
      higher y was ne zero h = ne (same_Some y n h)
      higher y was ne (suc j) h = b.apart (j, sym (climb-bottom s j y d was) ∙ h)

pub lawful-above : (s t : Shape) (n r : IRNode) → IsForest s → IsForest t → s.live r ≡ true → Reaches s.parent n r →
    Lawful s n t → Lawful s r t
lawful-above s t n r w w' live under l = elim (same_tells n r)
    [ inl e ↦ subst (λ z. Lawful s z t) e.1 l | inr e ↦ strictly e.1 ]
  where
    strictly : n ≢ r → Lawful s r t
    strictly ne = record {
      kept = λ m v nb.
          (let k = l.kept m v (λ z. nb (below-on s m n r z under)) in
          (k.0, k.1, λ q. k.2 (λ is. q (over under.0 under.1 m nb is))));
      below = λ m z. elim (went-down s t n r w l under (suc z.0) m r z.1 w' beside) [
        | inl h ↦ strict m z h.0 h.1
        | inr h ↦ inr h
      ];
      given = l.given;
    }
      where
        over : (k : ℕ) → climb s.parent k (Some n) ≡ Some r → (m : IRNode) → (IsBelow s r m → ⊥) → m ≡ n → m ≡ r
        over zero e m nb is = absurd (ne (same_Some n r e))
        over (suc k) e m nb is = absurd (nb (k, ap (λ z. climb s.parent (suc k) (Some z)) is ∙ e))

        beside : IsBeside s t n r w l under r
        beside = record {
          live = live;
          apart = λ z. cycle z.0 z.1;
          under_root = (zero, refl);
        }
          where
            cycle : (k : ℕ) → climb s.parent k (Some r) ≡ Some n → ⊥
            cycle zero e = ne (sym (same_Some r n e))
            cycle (suc k) e = not-below-itself s w r (below-on s r n r (k, e) under)

        strict : (m : IRNode) → IsBelow t r m → (k : ℕ) → climb s.parent k (Some m) ≡ Some r → IsBelow s r m ⊎
            (s.given m ≡ false)
        strict m z zero e = absurd (not-below-itself t w' r (subst (λ x. IsBelow t r x) (same_Some m r e) z))
        strict m z (suc k) e = inl (k, e)
