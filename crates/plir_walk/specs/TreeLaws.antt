-- Laws of trees, for the proofs of every crate: what stands under what, by places and by climbing; and the order of
-- places where every node is PreOrder.
use Rattle.std.proofs.Common.{◌≡◌, ℕ, zero, suc, true, [], ◌∷◌, ◌++◌, Option, Some, None, slice_get, inl, inr, refl}
use Rattle.std.proofs.Common.{sym, ap, subst}
use Rattle.std.proofs.Common.{◌∙◌}
use Rattle.std.specs.Prelude.{option_and_then, MatchOption, ◌⊎◌}
use Rattle.std.proofs.lemmas.Option.{same_Some, none-some}
use Rattle.plir_store.specs.MemberLaws.{Has-at, at-Has}
use Rattle.plir_store.specs.Members.{Has}
use Rattle.plir_core.specs.Above.{climb, Reaches}
use Rattle.plir_core.specs.Forest.{Shape, IsForest}
use Rattle.plir_core.specs.declared.ptr.IRNode.{IRNode}
use Rattle.plir_core.specs.declared.ptr.IRNode.TheVariants.{Operation, Region, BasicBlock}
use Rattle.plir_walk.specs.declared.config.Order.TheVariants.{PreOrder, PostOrder}
use Rattle.plir_walk.specs.declared.config.WalkConfig.{WalkConfig}
use Rattle.plir_walk.specs.Config.{AllPre, order_of}
use Rattle.plir_walk.specs.Tree.{Tree, Place, node_at, Before, IsUnder, IsProperlyUnder, NodeBefore}

module _ (t : Tree) where
  node_at-step : (p q : Place) (a n : IRNode) (o : Option IRNode) → option_and_then (λ c. node_at t c p) o ≡ Some a →
      ((c : IRNode) → node_at t c p ≡ Some a → node_at t c (p ++ q) ≡ Some n) →
      option_and_then (λ c. node_at t c (p ++ q)) o ≡ Some n
  node_at-step p q a n None e k = absurd (none-some a e)
  node_at-step p q a n (Some c) e k = k c e

  -- a place under what stands at a place
  pub node_at-append : (p q : Place) (r a n : IRNode) → node_at t r p ≡ Some a → node_at t a q ≡ Some n →
      node_at t r (p ++ q) ≡ Some n
  node_at-append [] q r a n e f = subst (λ z. node_at t z q ≡ Some n) (sym (same_Some r a e)) f
  node_at-append (i ∷ p) q r a n e f =
      node_at-step p q a n (slice_get (t r) i) e (λ c k. node_at-append p q c a n k f)

  pub under-trans : (a b n : IRNode) → IsUnder t a b → IsUnder t b n → IsUnder t a n
  under-trans a b n h k = (h.0 ++ k.0, node_at-append h.0 k.0 a b n h.1 k.1)

  pub properly-trans : (a b n : IRNode) → IsProperlyUnder t a b → IsProperlyUnder t b n → IsProperlyUnder t a n
  properly-trans a b n h k = (h.0, h.1 ++ k.0 ∷ k.1, node_at-append (h.0 ∷ h.1) (k.0 ∷ k.1) a b n h.2 k.2)

  pub properly-under : (a n : IRNode) → IsProperlyUnder t a n → IsUnder t a n
  properly-under a n h = (h.0 ∷ h.1, h.2)

  under-node : (a n : IRNode) (p : Place) → node_at t a p ≡ Some n → (a ≡ n) ⊎ IsProperlyUnder t a n
  under-node a n [] e = inl (same_Some a n e)
  under-node a n (i ∷ p) e = inr (i, p, e)

  pub under-cases : (a n : IRNode) → IsUnder t a n → (a ≡ n) ⊎ IsProperlyUnder t a n
  under-cases a n h = under-node a n h.0 h.1

  -- what stands under the child at a place, or under any child, stands under its parent
  pub under-child-at : (a x n : IRNode) (i : ℕ) → slice_get (t a) i ≡ Some x → IsUnder t x n → IsUnder t a n
  under-child-at a x n i e u = (i ∷ u.0, ap (option_and_then (λ c. node_at t c u.0)) e ∙ u.1)

  pub under-child : (a x n : IRNode) → Has (t a) x → IsUnder t x n → IsUnder t a n
  under-child a x n h u = let p = at-Has (t a) x h in under-child-at a x n p.0 p.1 u

  pub child-under : (a x : IRNode) → Has (t a) x → IsUnder t a x
  child-under a x h = under-child a x x h ([], refl)

-- ---- climbing

climb-none : {N : Type 0} (up : N → Option N) (k : ℕ) (a : N) → climb up k None ≡ Some a → ⊥
climb-none up zero a e = none-some a e
climb-none up (suc k) a e = none-some a e

climb-more : {N : Type 0} (up : N → Option N) (k : ℕ) (o : Option N) (c : N) → climb up k o ≡ Some c →
    climb up (suc k) o ≡ up c
climb-more up zero o c e = ap (climb up 1) e
climb-more up (suc k) None c e = absurd (none-some c e)
climb-more up (suc k) (Some m) c e = climb-more up k (up m) c e

module _ (s : Shape) (w : IsForest s) where
  -- what climbs to a node stands at or under it
  pub reached-under : (k : ℕ) (n r : IRNode) → climb s.parent k (Some n) ≡ Some r → IsUnder s.children r n
  reached-under zero n r e = ([], sym e)
  reached-under (suc k) n r e = over (λ a g. reached-under k a r g) (s.parent n) refl
    where
      over : ((a : IRNode) → climb s.parent k (Some a) ≡ Some r → IsUnder s.children r a) →
          (o : Option IRNode) → s.parent n ≡ o → IsUnder s.children r n
      over rest None q = absurd (climb-none s.parent k r (ap (climb s.parent k) (sym q) ∙ e))
      over rest (Some a) q =
          let above = rest a (ap (climb s.parent k) (sym q) ∙ e) in
          under-trans s.children r a n above (child-under s.children a n (w.parent_child a n q))

  -- and climbs to it
  at-reached : (n : IRNode) (p : Place) (r : IRNode) → node_at s.children r p ≡ Some n → Reaches s.parent n r
  at-reached n [] r e = (0, sym e)
  at-reached n (i ∷ p) r e = below (λ c g. at-reached n p c g) (slice_get (s.children r) i) refl e
    where
      below : ((c : IRNode) → node_at s.children c p ≡ Some n → Reaches s.parent n c) → (o : Option IRNode) →
          slice_get (s.children r) i ≡ o → option_and_then (λ c. node_at s.children c p) o ≡ Some n
          → Reaches s.parent n r
      below rest None q g = absurd (none-some n g)
      below rest (Some c) q g =
          let climbed = rest c g in
          let parent = w.child_parent r c (Has-at (s.children r) i c q) in
          (suc climbed.0, climb-more s.parent climbed.0 (Some n) c climbed.1 ∙ parent)

  pub under-reached : (n r : IRNode) → IsUnder s.children r n → Reaches s.parent n r
  under-reached n r u = at-reached n u.0 r u.1

-- ---- what lives

module _ (s : Shape) (w : IsForest s) where
  at-live : (n : IRNode) (p : Place) (r : IRNode) → s.live r ≡ true → node_at s.children r p ≡ Some n → s.live n ≡ true
  at-live n [] r l e = subst (λ z. s.live z ≡ true) (same_Some r n e) l
  at-live n (i ∷ p) r l e = below (λ c m g. at-live n p c m g) (slice_get (s.children r) i) refl e
    where
      below : ((c : IRNode) → s.live c ≡ true → node_at s.children c p ≡ Some n → s.live n ≡ true)
          → (o : Option IRNode) →
          slice_get (s.children r) i ≡ o → option_and_then (λ c. node_at s.children c p) o ≡ Some n → s.live n ≡ true
      below rest None q e = absurd (none-some n e)
      below rest (Some c) q e = rest c (w.child_live r c (Has-at (s.children r) i c q)) e

  -- what stands under a live node is live
  pub under-live : (r n : IRNode) → s.live r ≡ true → IsUnder s.children r n → s.live n ≡ true
  under-live r n l u = at-live n u.0 r l u.1

-- ---- places in order, where every node is PreOrder

pre_not_post : PreOrder ≡ PostOrder → ⊥
pre_not_post e = cc

module _ (w : WalkConfig) (pre : AllPre w) where
  pub pre-order : (n : IRNode) → order_of w n ≡ PreOrder
  pre-order (Operation p) = pre.0
  pre-order (Region p) = pre.2
  pre-order (BasicBlock p) = pre.1

  module _ (t : Tree) where
    -- before a node, and so before what is below it
    before-on : (p q : Place) (o : Option IRNode) → MatchOption o ⊥ (λ c. Before w t c p q) → (z : Place) →
        ((c : IRNode) → Before w t c p q → Before w t c p (q ++ z)) → MatchOption o ⊥ (λ c. Before w t c p (q ++ z))
    before-on p q None h z k = absurd h
    before-on p q (Some c) h z k = k c h

    before-more : (p q z : Place) (r : IRNode) → Before w t r p q → Before w t r p (q ++ z)
    before-more [] [] z r h = absurd h
    before-more [] (j ∷ q) z r h = h
    before-more (i ∷ p) [] z r h = absurd (pre_not_post (sym (pre-order r) ∙ h))
    before-more (i ∷ p) (j ∷ q) z r (inl h) = inl h
    before-more (i ∷ p) (j ∷ q) z r (inr h) =
        inr (h.0, before-on p q (slice_get (t r) i) h.1 z (λ c k. before-more p q z c k))

    pub node-before-more : (r e b n : IRNode) → NodeBefore w t r e b → IsProperlyUnder t b n → NodeBefore w t r e n
    node-before-more r e b n h k = record {
      place_a = h.place_a;
      place_b = h.place_b ++ k.0 ∷ k.1;
      at_a = h.at_a;
      at_b = node_at-append t h.place_b (k.0 ∷ k.1) r b n h.at_b k.2;
      before = before-more h.place_a h.place_b (k.0 ∷ k.1) r h.before;
    }

    -- a node is before what is below it
    above-on : (p z : Place) (a : IRNode) (o : Option IRNode) → option_and_then (λ c. node_at t c p) o ≡ Some a →
        ((c : IRNode) → node_at t c p ≡ Some a → Before w t c p (p ++ z)) →
        MatchOption o ⊥ (λ c. Before w t c p (p ++ z))
    above-on p z a None e k = absurd (none-some a e)
    above-on p z a (Some c) e k = k c e

    before-own : (p : Place) (i : ℕ) (z : Place) (r a : IRNode) → node_at t r p ≡ Some a → Before w t r p (p ++ i ∷ z)
    before-own [] i z r a e = pre-order r
    before-own (j ∷ p) i z r a e =
        inr (refl, above-on p (i ∷ z) a (slice_get (t r) j) e (λ c k. before-own p i z c a k))

    pub node-before-own : (r a n : IRNode) → IsUnder t r a → IsProperlyUnder t a n → NodeBefore w t r a n
    node-before-own r a n h k = record {
      place_a = h.0;
      place_b = h.0 ++ k.0 ∷ k.1;
      at_a = h.1;
      at_b = node_at-append t h.0 (k.0 ∷ k.1) r a n h.1 k.2;
      before = before-own h.0 k.0 k.1 r a h.1;
    }
