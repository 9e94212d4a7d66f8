use Rattle.std.proofs.Common.{◌≡◌, ℕ, zero, suc, List, [], ◌∷◌, ◌++◌, Some, slice_get, inl, inr, reverse, refl, sym, ap}
use Rattle.std.proofs.Common.{subst, ◌∙◌}
use Rattle.std.proofs.lemmas.List.{reverse-reverse}
use Rattle.plir_walk.specs.Config.{direction_of}
use Rattle.plir_store.specs.Members.{Distinct, Has}
use Rattle.plir_walk.specs.Tree.{Place, Tree, node_at}
use Rattle.plir_walk.specs.declared.config.Direction.{Direction}
use Rattle.plir_walk.specs.declared.config.Direction.TheVariants.{Forward, Reverse}
use Rattle.plir_walk.specs.declared.config.Order.{Order}
use Rattle.plir_walk.specs.declared.config.Order.TheVariants.{PostOrder, PreOrder}
use Rattle.plir_walk.specs.declared.config.WalkConfig.{WalkConfig}
use Rattle.plir_core.specs.declared.ptr.IRNode.{IRNode}
use Rattle.plir_store.specs.MemberLaws.{Distinct-cross, Distinct-left, Distinct-right, Has-append_left}
use Rattle.plir_store.specs.MemberLaws.{Has-append_right, Has-at}
use Rattle.plir_walk.specs.Step.{taken}
use Rattle.plir_walk.proofs.Groves.{Grove, Reads, and_then-some, first, flat, flat-root, grow, last, leaf, roots}
use Rattle.plir_walk.proofs.Groves.{taken-Has, under-flat}
use Rattle.plir_walk.proofs.Steps.{Distinct-taken}

-- Where no node stands twice in the trees, each node has one place.

pub index-once : (xs : List IRNode) (i j : ℕ) (e : IRNode) → Distinct xs → slice_get xs i ≡ Some e → slice_get xs j ≡
    Some e → i ≡ j
index-once [] i j e d p q = cc
index-once (x ∷ xs) zero zero e d p q = refl
index-once (x ∷ xs) zero (suc j) e d p q = absurd (d.0 (Has-at xs j x (let z : x ≡ e = cc in rw z q)))
index-once (x ∷ xs) (suc i) zero e d p q = absurd (d.0 (Has-at xs i x (let z : x ≡ e = cc in rw z p)))
index-once (x ∷ xs) (suc i) (suc j) e d p q = ap suc (index-once xs i j e d.1 p q)

pub taken-Distinct : (d : Direction) (xs : List IRNode) → Distinct (taken d xs) → Distinct xs
taken-Distinct Forward xs h = h
taken-Distinct Reverse xs h = subst (λ (v : List IRNode). Distinct v) (reverse-reverse xs)
    (Distinct-taken Reverse (reverse xs) h)

pub flat-b : (m : IRNode) (o : Order) (b s : Grove) → Distinct (flat (grow m o b s)) → Distinct (flat b)
flat-b m o b s d = Distinct-left (flat b) (last o m ++ flat s) (Distinct-right (first o m)
    (flat b ++ (last o m ++ flat s)) d)

pub flat-s : (m : IRNode) (o : Order) (b s : Grove) → Distinct (flat (grow m o b s)) → Distinct (flat s)
flat-s m o b s d = Distinct-right (last o m) (flat s) (Distinct-right (flat b) (last o m ++ flat s)
    (Distinct-right (first o m) (flat b ++ (last o m ++ flat s)) d))

pub root-b : (m : IRNode) (o : Order) (b s : Grove) → Distinct (flat (grow m o b s)) → Has (flat b) m → ⊥
root-b m PreOrder b s d h = d.0 (Has-append_left (flat b) (flat s) m h)
root-b m PostOrder b s d h = Distinct-cross (flat b) (m ∷ flat s) d m h (inl refl)

pub root-s : (m : IRNode) (o : Order) (b s : Grove) → Distinct (flat (grow m o b s)) → Has (flat s) m → ⊥
root-s m PreOrder b s d h = d.0 (Has-append_right (flat b) (flat s) m h)
root-s m PostOrder b s d h = (Distinct-right (flat b) (m ∷ flat s) d).0 h

pub b-s : (m : IRNode) (o : Order) (b s : Grove) → Distinct (flat (grow m o b s)) → (n : IRNode) → Has (flat b) n → Has
    (flat s) n → ⊥
b-s m o b s d n h k = Distinct-cross (flat b) (last o m ++ flat s) (Distinct-right (first o m)
    (flat b ++ (last o m ++ flat s)) d) n h (Has-append_right (last o m) (flat s) n k)

pub roots-Has : (g : Grove) (n : IRNode) → Has (roots g) n → Has (flat g) n
roots-Has leaf n h = h
roots-Has (grow m o b s) n (inl e) = subst (λ (v : IRNode). Has (flat (grow m o b s)) v) e (flat-root m o b s)
roots-Has (grow m o b s) n (inr h) = Has-append_right (first o m) (flat b ++ (last o m ++ flat s)) n
    (Has-append_right (flat b) (last o m ++ flat s) n (Has-append_right (last o m) (flat s) n (roots-Has s n h)))

pub roots-Distinct : (g : Grove) → Distinct (flat g) → Distinct (roots g)
roots-Distinct leaf d = tt
roots-Distinct (grow m o b s) d = (λ h. root-s m o b s d (roots-Has s m h), roots-Distinct s (flat-s m o b s d))

-- a node at or below a root of the first tree is not among the others
pub one-side : (w : WalkConfig) (t : Tree) (m : IRNode) (o : Order) (b s : Grove) → Reads w t (grow m o b s) → Distinct
    (flat (grow m o b s)) → (p : Place) (n : IRNode) → node_at t m p ≡ Some n → Has (flat s) n → ⊥
one-side w t m o b s r d [] n e h = root-s m o b s d (let z : m ≡ n = cc in rw z h)
one-side w t m o b s r d (i ∷ p) n e h =
    let k = and_then-some (λ c. node_at t c p) (slice_get (t m) i) n e in
    b-s m o b s d n (under-flat w t b k.0 n p r.2 (subst (λ (v : List IRNode). Has v k.0) (sym r.1)
    (taken-Has (direction_of w m) (t m) k.0 (Has-at (t m) i k.0 k.1))) k.2) h

pub below-flat : (w : WalkConfig) (t : Tree) (m : IRNode) (o : Order) (b s : Grove) → Reads w t (grow m o b s) → (i : ℕ)
    (p : Place) (n : IRNode) → node_at t m (i ∷ p) ≡ Some n → Has (flat b) n
below-flat w t m o b s r i p n e =
    let k = and_then-some (λ c. node_at t c p) (slice_get (t m) i) n e in
    under-flat w t b k.0 n p r.2 (subst (λ (v : List IRNode). Has v k.0) (sym r.1)
    (taken-Has (direction_of w m) (t m) k.0 (Has-at (t m) i k.0 k.1))) k.2

pub one-place : (w : WalkConfig) (t : Tree) (g : Grove) → Reads w t g → Distinct (flat g) → (c d n : IRNode)
    (p q : Place) → Has (roots g) c → Has (roots g) d → node_at t c p ≡ Some n → node_at t d q ≡ Some n → (c ≡ d) ×
    (p ≡ q)
one-place w t leaf r ds c d n p q hc hd ep eq = absurd hc
one-place w t (grow m o b s) r ds c d n p q (inr hc) (inr hd) ep eq = one-place w t s r.3 (flat-s m o b s ds) c d n p q
    hc hd ep eq
one-place w t (grow m o b s) r ds c d n p q (inl hc) (inr hd) ep eq = absurd (one-side w t m o b s r ds p n (rw hc ep)
    (under-flat w t s d n q r.3 hd eq))
one-place w t (grow m o b s) r ds c d n p q (inr hc) (inl hd) ep eq = absurd (one-side w t m o b s r ds q n (rw hd eq)
    (under-flat w t s c n p r.3 hc ep))
one-place w t (grow m o b s) r ds c d n [] [] (inl hc) (inl hd) ep eq = (sym hc ∙ hd, refl)
one-place w t (grow m o b s) r ds c d n [] (j ∷ q) (inl hc) (inl hd) ep eq =
    absurd (root-b m o b s ds (let z : n ≡ m = (let y : Some c ≡ Some n = ep in let x : c ≡ n = cc y in sym x ∙ sym hc)
    in subst (λ (v : IRNode). Has (flat b) v) z (below-flat w t m o b s r j q n (rw hd eq))))
one-place w t (grow m o b s) r ds c d n (i ∷ p) [] (inl hc) (inl hd) ep eq =
    absurd (root-b m o b s ds (let z : n ≡ m = (let y : Some d ≡ Some n = eq in let x : d ≡ n = cc y in sym x ∙ sym hd)
    in subst (λ (v : IRNode). Has (flat b) v) z (below-flat w t m o b s r i p n (rw hc ep))))
one-place w t (grow m o b s) r ds c d n (i ∷ p) (j ∷ q) (inl hc) (inl hd) ep eq =
    let ks : List IRNode = (t m) in
    let ep' : node_at t m (i ∷ p) ≡ Some n = rw hc ep in
    let eq' : node_at t m (j ∷ q) ≡ Some n = rw hd eq in
    let k = and_then-some (λ c. node_at t c p) (slice_get ks i) n ep' in
    let l = and_then-some (λ c. node_at t c q) (slice_get ks j) n eq' in
    let in_b = λ (e : IRNode) (h : Has ks e). subst (λ (v : List IRNode). Has v e) (sym r.1)
    (taken-Has (direction_of w m) ks e h) in
    let z = one-place w t b r.2 (flat-b m o b s ds) k.0 l.0 n p q (in_b k.0 (Has-at ks i k.0 k.1))
    (in_b l.0 (Has-at ks j l.0 l.1)) k.2 l.2 in
    let dk : Distinct ks = taken-Distinct (direction_of w m) ks
    (subst (λ (v : List IRNode). Distinct v) r.1 (roots-Distinct b (flat-b m o b s ds))) in
    let ij : i ≡ j = index-once ks i j l.0 dk (k.1 ∙ ap Some z.0) l.1 in
    (sym hc ∙ hd, (let e = z.1 in rw (ij, e) refl))
