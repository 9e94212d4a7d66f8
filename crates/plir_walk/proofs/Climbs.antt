-- The way up from a node, and what a lawful call leaves of it.
use Rattle.std.proofs.Common.{◌≡◌, ℕ, zero, suc, ◌+◌, true, List, Option, Some, None, ◌⊎◌, inl, inr, refl, sym, ap}
use Rattle.std.proofs.Common.{subst, arith, ◌∙◌, option_and_then}
use Rattle.plir_core.specs.Above.{climb, Reaches}
use Rattle.plir_store.specs.Members.{Has}
use Rattle.plir_core.specs.declared.ptr.IRNode.{IRNode}
use Rattle.plir_core.specs.Forest.{IsBelow, IsForest, Shape}
use Rattle.plir_walk.specs.Lawful.{Lawful}
use Rattle.plir_walk.proofs.Groves.{and_then-some}
use Rattle.plir_walk.proofs.Heights.{deeper, depth_in}

-- the last step of a climb
pub climb-and : (up : IRNode → Option IRNode) (k : ℕ) (o : Option IRNode) → climb up (suc k) o ≡ option_and_then up
    (climb up k o)
climb-and up zero None = refl
climb-and up zero (Some n) = refl
climb-and up (suc k) None = refl
climb-and up (suc k) (Some n) = climb-and up k (up n)

pub climb-split : (s : Shape) (k : ℕ) (x a : IRNode) → climb s.parent (suc k) (Some x) ≡ Some a → (y : IRNode) ×
    (climb s.parent k (Some x) ≡ Some y) × (s.parent y ≡ Some a)
climb-split s k x a e = and_then-some s.parent (climb s.parent k (Some x)) a (sym (climb-and s.parent k (Some x)) ∙ e)

-- one level more, at the top
pub climb-top : (s : Shape) (k : ℕ) (x a b : IRNode) → climb s.parent k (Some x) ≡ Some a → s.parent a ≡ Some b → climb
    s.parent (suc k) (Some x) ≡ Some b
climb-top s k x a b e f = climb-and s.parent k (Some x) ∙ (ap (option_and_then s.parent) e ∙ f)

-- one level more, at the bottom
pub climb-bottom : (s : Shape) (k : ℕ) (x a : IRNode) → s.parent x ≡ Some a → climb s.parent (suc k) (Some x) ≡ climb
    s.parent k (Some a)
climb-bottom s k x a e = ap (climb s.parent k) e

pub climb-depth : (s : Shape) (f : IsForest s) (k : ℕ) (x a : IRNode) → climb s.parent k (Some x) ≡ Some a → depth_in s
    x ≡ depth_in s a + k
climb-depth s f zero x a e = let h : x ≡ a = cc in rw h (omega arith)
climb-depth s f (suc k) x a e =
    let r = climb-split s k x a e in
    omega (arith, climb-depth s f k x r.0 r.1, deeper s f a r.0 r.2)

pub not-below-itself : (s : Shape) (f : IsForest s) (x : IRNode) → IsBelow s x x → ⊥
not-below-itself s f x h = omega (arith, climb-depth s f (suc h.0) x x h.1)

pub IsBelow-Reaches : (s : Shape) (a x : IRNode) → IsBelow s a x → Reaches s.parent x a
IsBelow-Reaches s a x h = (suc h.0, h.1)

-- at or below a child is below the parent
pub child-below : (s : Shape) (a c x : IRNode) → s.parent c ≡ Some a → Reaches s.parent x c → IsBelow s a x
child-below s a c x e h = (h.0, climb-top s h.0 x c a h.1 e)

-- of two nodes of one depth with a node at or below both, each is the other
pub same-branch : (s : Shape) (f : IsForest s) (a b x : IRNode) → depth_in s a ≡ depth_in s b → Reaches s.parent x a →
    Reaches s.parent x b → a ≡ b
same-branch s f a b x d h k =
    let e : h.0 ≡ k.0 = omega (arith, climb-depth s f h.0 x a h.1, climb-depth s f k.0 x b k.1) in
    let g : climb s.parent k.0 (Some x) ≡ Some a = subst (λ (v : ℕ). climb s.parent v (Some x) ≡ Some a) e h.1 in
    let g' : climb s.parent k.0 (Some x) ≡ Some b = k.1 in
    cc (g, g')

-- a node b of the depth of a, where n is at or below a, is not at or below n unless it is a
pub beside-branch : (s : Shape) (f : IsForest s) (a b n : IRNode) → depth_in s a ≡ depth_in s b → Reaches s.parent n a →
    Reaches s.parent b n → a ≡ b
beside-branch s f a b n d h k =
    let p = climb-depth s f h.0 n a h.1 in
    let q = climb-depth s f k.0 b n k.1 in
    let e : h.0 ≡ zero = omega (arith, p, q) in
    let e' : k.0 ≡ zero = omega (arith, p, q) in
    let g : climb s.parent zero (Some n) ≡ Some a = subst (λ (v : ℕ). climb s.parent v (Some n) ≡ Some a) e h.1 in
    let g' : climb s.parent zero (Some b) ≡ Some n = subst (λ (v : ℕ). climb s.parent v (Some b) ≡ Some n) e' k.1 in
    cc (g, g')

-- What stands under a node that is apart from n stood there before a lawful call at n.
pub apart-kept : (s s' : Shape) (n : IRNode) (f : IsForest s) (f' : IsForest s') (l : Lawful s n s') (k : ℕ)
    (x d : IRNode)
    → climb s'.parent k (Some x) ≡ Some d → s.live d ≡ true → (Reaches s.parent d n → ⊥) → (Reaches s.parent n d → ⊥) →
    climb s.parent k (Some x) ≡ Some d
apart-kept s s' n f f' l zero x d e v p q = e
apart-kept s s' n f f' l (suc k) x d e v p q =
    let r = climb-split s' k x d e in
    let y : IRNode = r.0 in
    let same : s'.children d ≡ s.children d = (l.kept d v (λ h. p (IsBelow-Reaches s n d h))).2
    (λ h. p (zero, ap Some h)) in
    let has : Has (s.children d) y = subst (λ (z : List IRNode). Has z y) same (f'.parent_child d y r.2) in
    let up : s.parent y ≡ Some d = f.child_parent d y has in
    climb-top s k x y d
    (apart-kept s s' n f f' l k x y r.1 (f.child_live d y has)
    (λ h. apart-up s n y d up h p q)
    (λ h. q (suc h.0, climb-top s h.0 n y d h.1 up)))
    up
  where
    apart-up : (s : Shape) (n y d : IRNode) → s.parent y ≡ Some d → Reaches s.parent y n → (Reaches s.parent d n → ⊥) →
        (Reaches s.parent n d → ⊥) → ⊥
    apart-up s n y d up (zero, e) p q = q (suc zero, (let h : y ≡ n = cc in rw (← h) up))
    apart-up s n y d up (suc j, e) p q = p (j, sym (climb-bottom s j y d up) ∙ e)

-- of two nodes above x, one is above the other
pub two-above : (s : Shape) (e n x : IRNode) → Reaches s.parent x e → Reaches s.parent x n → Reaches s.parent e n ⊎
    Reaches s.parent n e
two-above s e n x (k, h) (j, g) = go k j e n h g
  where
    go : (k j : ℕ) (e n : IRNode) → climb s.parent k (Some x) ≡ Some e → climb s.parent j (Some x) ≡ Some n → Reaches
        s.parent e n ⊎ Reaches s.parent n e
    go zero j e n h g = inl (j, (let p : x ≡ e = cc in subst (λ (v : IRNode). climb s.parent j (Some v) ≡ Some n) p g))
    go (suc k) zero e n h g = inr (
      suc k,
      (let p : x ≡ n = cc in subst
          (λ (v : IRNode). climb s.parent (suc k) (Some v) ≡ Some e) p h),
    )
    go (suc k) (suc j) e n h g =
        let p = climb-split s k x e h in
        let q = climb-split s j x n g in
        elim (go k j p.0 q.0 p.1 q.1) [
          | inl z ↦ up-one s p.0 e q.0 n p.2 q.2 z.0 z.1
          | inr z ↦ elim (up-one s q.0 n p.0 e q.2 p.2 z.0 z.1) [ inl y ↦ inr y | inr y ↦ inl y ]
        ]
      where
        -- from a at or below b to their parents
        up-one : (s : Shape) (a a' b b' : IRNode) → s.parent a ≡ Some a' → s.parent b ≡ Some b' → (i : ℕ) → climb
            s.parent i (Some a) ≡ Some b → Reaches s.parent a' b' ⊎ Reaches s.parent b' a'
        up-one s a a' b b' u v zero h = inl (
          zero,
          (let p : a ≡ b = cc in let z : Some a' ≡ Some b' = sym u ∙
              (ap s.parent p ∙ v) in z),
        )
        up-one s a a' b b' u v (suc i) h = inl (suc i, climb-top s i a' b b' (sym (climb-bottom s i a a' u) ∙ h) v)

pub below-live : (s : Shape) (f : IsForest s) (e x : IRNode) → s.live e ≡ true → Reaches s.parent x e → s.live x ≡ true
below-live s f e x v (k, h) = go k e v h
  where
    go : (k : ℕ) (e : IRNode) → s.live e ≡ true → climb s.parent k (Some x) ≡ Some e → s.live x ≡ true
    go zero e v h = (let p : e ≡ x = cc in rw (← p) v)
    go (suc k) e v h =
        let p = climb-split s k x e h in
        go k p.0 (f.child_live e p.0 (f.parent_child e p.0 p.2)) p.1
