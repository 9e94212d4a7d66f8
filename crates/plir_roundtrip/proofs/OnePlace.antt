-- Each node stands at one place under another.
use Rattle.std.proofs.Common.{◌≡◌, ℕ, zero, suc, ◌+◌, List, [], ◌∷◌, length, Option, Some, None, refl, sym, ap}
use Rattle.std.proofs.Common.{subst, ◌∙◌, arith}
use Rattle.std.specs.Prelude.{slice_get, option_and_then}
use Rattle.std.proofs.lemmas.Option.{same_Some, none-some}
use Rattle.plir_store.specs.MemberLaws.{Has-at}
use Rattle.plir_store.specs.Members.{Has, Distinct}
use Rattle.plir_core.specs.Above.{climb}
use Rattle.plir_core.specs.ContextView.{ContextView, children, parent_of}
use Rattle.plir_core.specs.Measures.{depth}
use Rattle.plir_core.specs.Standing.{IsStanding}
use Rattle.plir_core.specs.declared.ptr.IRNode.{IRNode}
use Rattle.plir_walk.specs.Tree.{HasOnePlaceEach, Place, node_at}

-- what stands once in a list has one index there
index_once : {X : Type 0} (xs : List X) (i j : ℕ) (x : X) → Distinct xs → slice_get xs i ≡ Some x
    → slice_get xs j ≡ Some x → i ≡ j
index_once [] i j x d e f = absurd (none-some x e)
index_once (y ∷ ys) zero zero x d e f = refl
index_once (y ∷ ys) zero (suc j) x d e f =
    absurd (d.0 (subst (Has ys) (sym (same_Some y x e)) (Has-at ys j x f)))
index_once (y ∷ ys) (suc i) zero x d e f =
    absurd (d.0 (subst (Has ys) (sym (same_Some y x f)) (Has-at ys i x e)))
index_once (y ∷ ys) (suc i) (suc j) x d e f = ap (λ k. suc k) (index_once ys i j x d.1 e f)

-- one step more of a climb
climb_more : {N : Type 0} (up : N → Option N) (k : ℕ) (o : Option N) (c : N) → climb up k o ≡ Some c
    → climb up (suc k) o ≡ up c
climb_more up zero o c e = ap (climb up 1) e
climb_more up (suc k) None c e = absurd (none-some c e)
climb_more up (suc k) (Some m) c e = climb_more up k (up m) c e

module _ {K A T : Type 0} (s : ContextView K A T) (st : IsStanding s) where
  -- a place under a node goes on from one of its children
  pub record Goes (i : ℕ) (p : Place) (r n : IRNode) : Type 0 where
    pub child : IRNode
    pub there : slice_get (children s r) i ≡ Some child
    pub below : node_at (children s) child p ≡ Some n

  pub goes : (i : ℕ) (p : Place) (r n : IRNode) → node_at (children s) r (i ∷ p) ≡ Some n → Goes i p r n
  goes i p r n e = by (slice_get (children s r) i) refl e
    where
      by : (o : Option IRNode) → slice_get (children s r) i ≡ o
          → option_and_then (λ c. node_at (children s) c p) o ≡ Some n → Goes i p r n
      by None f g = absurd (none-some n g)
      by (Some c) f g = record { child = c; there = f; below = g }

  parent_is : (i : ℕ) (p : Place) (r n : IRNode) (g : Goes i p r n) → parent_of s g.child ≡ Some r
  parent_is i p r n g = st.forest.child_parent r g.child (Has-at (children s r) i g.child g.there)

  -- as many steps up as the place has steps down
  climbs : (p : Place) (r n : IRNode) → node_at (children s) r p ≡ Some n
      → climb (parent_of s) (length p) (Some n) ≡ Some r
  climbs [] r n e = sym e
  climbs (i ∷ p) r n e =
      let g = goes i p r n e in
      climb_more (parent_of s) (length p) (Some n) g.child (climbs p g.child n g.below) ∙ parent_is i p r n g

  deep : (p : Place) (r n : IRNode) → node_at (children s) r p ≡ Some n → depth s n ≡ depth s r + length p
  deep [] r n e = let same : depth s r ≡ depth s n = ap (depth s) (same_Some r n e) in omega (arith, same)
  deep (i ∷ p) r n e =
      let g = goes i p r n e in
      let more : depth s n ≡ depth s g.child + length p = deep p g.child n g.below in
      let one : depth s g.child ≡ depth s r + 1 = st.measured.deeper r g.child (parent_is i p r n g) in
      omega (arith, more, one)

  same_steps : (p q : Place) (r n : IRNode) → length p ≡ length q → node_at (children s) r p ≡ Some n
      → node_at (children s) r q ≡ Some n → p ≡ q
  same_steps [] [] r n l e f = refl
  same_steps [] (j ∷ q) r n l e f = absurd (omega (arith, l))
  same_steps (i ∷ p) [] r n l e f = absurd (omega (arith, l))
  same_steps (i ∷ p) (j ∷ q) r n l e f =
      let g = goes i p r n e in
      let h = goes j q r n f in
      let fewer : length p ≡ length q = omega (arith, l) in
      let child : g.child ≡ h.child =
      same_Some g.child h.child (sym (climbs p g.child n g.below)
      ∙ ap (λ k. climb (parent_of s) k (Some n)) fewer ∙ climbs q h.child n h.below) in
      let index : i ≡ j =
      index_once (children s r) i j h.child (st.forest.once r) (g.there ∙ ap (λ z. Some z) child) h.there in
      let rest : p ≡ q =
      same_steps p q h.child n fewer (subst (λ z. node_at (children s) z p ≡ Some n) child g.below) h.below in
      rw (index, rest) refl

  pub one_place : (r : IRNode) → HasOnePlaceEach (children s) r
  one_place r n p q e f =
      let d : depth s n ≡ depth s r + length p = deep p r n e in
      let c : depth s n ≡ depth s r + length q = deep q r n f in
      let l : length p ≡ length q = omega (arith, d, c) in
      same_steps p q r n l e f
