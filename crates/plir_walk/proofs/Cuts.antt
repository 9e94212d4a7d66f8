-- A tree without what its calls shut out, and the tree itself.
use Rattle.std.proofs.Common.{◌≡◌, ℕ, List, [], ◌∷◌, ◌++◌, Option, Some, slice_get, ◌⊎◌, inl, inr, refl, sym, ap, subst}
use Rattle.std.proofs.Common.{◌∙◌, MatchOption}
use Rattle.std.proofs.lemmas.Option.{none-some}
use Rattle.std.specs.declared.ops.ControlFlow.{ControlFlow}
use Rattle.std.specs.declared.ops.ControlFlow.TheVariants.{Break, Continue}
use Rattle.plir_walk.specs.AsRead.{children_at, children_by, tree_read}
use Rattle.plir_walk.specs.Calls.{Call, nodes_of}
use Rattle.plir_walk.specs.Config.{AllPost, order_of}
use Rattle.plir_store.specs.Members.{Distinct, Has}
use Rattle.plir_walk.specs.ShutOut.{IsSkipped}
use Rattle.plir_walk.specs.Tree.{Before, HasOnePlaceEach, IsUnder, NodeBefore, Place, Tree, node_at}
use Rattle.plir_walk.specs.Walk.{IsDue}
use Rattle.plir_walk.specs.declared.config.Order.{Order}
use Rattle.plir_walk.specs.declared.config.Order.TheVariants.{PostOrder, PreOrder}
use Rattle.plir_walk.specs.declared.config.WalkConfig.{WalkConfig}
use Rattle.plir_walk.specs.declared.interruptible.WalkContinue.{WalkContinue}
use Rattle.plir_walk.specs.declared.interruptible.WalkContinue.TheVariants.{Advance, Skip}
use Rattle.plir_core.specs.declared.ptr.IRNode.{IRNode}
use Rattle.plir_core.specs.Forest.{Shape}
use Rattle.plir_walk.proofs.Groves.{and_then-some, step-down}
use Rattle.plir_walk.proofs.Nodes.{post-at, same_tells}
use Rattle.plir_walk.proofs.Stages.{cut, cut-same}

-- what cutting leaves of a node's children
pub by-answer : {B : Type 0} (o : Order) (a : ControlFlow B WalkContinue) (ks : List IRNode) →
    (((o ≡ PreOrder) × (a ≡ Continue Skip)) × (children_by o a ks ks ≡ [])) ⊎ ((o ≡ PreOrder → a ≡ Continue Skip → ⊥) ×
    (children_by o a ks ks ≡ ks))
by-answer PreOrder (Continue Skip) ks = inl ((refl, refl), refl)
by-answer PreOrder (Continue Advance) ks = inr (λ e g. cc, refl)
by-answer PreOrder (Break b) ks = inr (λ e g. cc, refl)
by-answer PostOrder a ks = inr (λ e g. cc, refl)

pub nodes-Has : {C S B : Type 0} (xs : List (Call C S B)) (x : Call C S B) → Has xs x → Has (nodes_of xs) x.node
nodes-Has [] x h = h
nodes-Has (y ∷ xs) x (inl e) = inl (ap (λ (z : Call _ _ _). z.node) e)
nodes-Has (y ∷ xs) x (inr h) = inr (nodes-Has xs x h)

-- a node keeps its children, or is PreOrder and was called with Skip, and has none
pub cut-is : {C S B : Type 0} (w : WalkConfig) (t : Tree) (calls : List (Call C S B)) (m : IRNode) → Distinct
    (nodes_of calls)
    → (((order_of w m ≡ PreOrder) × IsSkipped calls m) × (cut w calls t m ≡ [])) ⊎
    ((order_of w m ≡ PreOrder → IsSkipped calls m → ⊥) × (cut w calls t m ≡ t m))
cut-is w t [] m d = inr (λ o h. h.1, refl)
cut-is w t (x ∷ xs) m d = elim (same_tells x.node m) [
  | inl e ↦ elim (by-answer (order_of w m) x.answer (t m)) [
    | inl k ↦ inl ((k.0.0, (x, inl refl, e.1, k.0.1)), rw e.0 k.1)
    | inr k ↦ inr (
      λ o h. elim h.1 [
        | inl g ↦ k.0 o (ap (λ (z : Call _ _ _). z.answer) g ∙ h.3)
        | inr g ↦ d.0 (subst (λ (z : IRNode). Has (nodes_of xs) z) (h.2 ∙ sym e.1) (nodes-Has xs h.0 g))
      ],
      rw e.0 k.1,
    )
  ]
  | inr e ↦ elim (cut-is w t xs m d.1) [
    | inl k ↦ inl ((k.0.0, (k.0.1.0, inr k.0.1.1, k.0.1.2, k.0.1.3)), rw e.0 k.1)
    | inr k ↦ inr (
      λ o h. elim h.1 [
        | inl g ↦ e.1 (ap (λ (z : Call _ _ _). z.node) g ∙ h.2)
        | inr g ↦ k.0 o (h.0, g, h.2, h.3)
      ],
      rw e.0 k.1,
    )
  ]
]

-- a tree whose skipped PreOrder nodes have no children is its own cut
pub cut-read : {C S B : Type 0} (look : C → Shape) (w : WalkConfig) (xs : List (Call C S B)) (e : C) (n : IRNode) → cut
    w xs (tree_read look w xs e) n ≡ tree_read look w xs e n
cut-read look w [] e n = refl
cut-read look w (x ∷ xs) e n = elim (same_tells x.node n) [
  | inl k ↦ rw k.0 (ap (λ (v : Order). children_by v x.answer (children_at look w x) (children_at look w x))
      (ap (order_of w) (sym k.1)) ∙ twice (order_of w x.node) x.answer ((look x.before).children x.node)
      ((look x.after).children x.node))
  | inr k ↦ rw k.0 (cut-same w xs (tree_read look w (x ∷ xs) e) (tree_read look w xs e) n (rw k.0 refl) ∙ cut-read look
      w xs e n)
]
  where
    twice : {B : Type 0} (o : Order) (a : ControlFlow B WalkContinue) (p q : List IRNode) → children_by o a
        (children_by o a p q) (children_by o a p q) ≡ children_by o a p q
    twice PreOrder (Continue Skip) p q = refl
    twice PreOrder (Continue Advance) p q = refl
    twice PreOrder (Break b) p q = refl
    twice PostOrder a p q = refl

-- nothing is cut where all levels are PostOrder
pub cut-post : {C S B : Type 0} (w : WalkConfig) (u : Tree) (xs : List (Call C S B)) → AllPost w → (n : IRNode) → cut w
    xs u n ≡ u n
cut-post w u [] all n = refl
cut-post w u (x ∷ xs) all n = elim (same_tells x.node n) [
  | inl k ↦ rw k.0 (ap (λ (v : Order). children_by v x.answer (u n) (u n)) (post-at w all n))
  | inr k ↦ rw k.0 (cut-post w u xs all n)
]

-- a place below a place
pub place-append : (t : Tree) (q p : Place) (r a : IRNode) → node_at t r q ≡ Some a → node_at t r (q ++ p) ≡ node_at t a
    p
place-append t [] p r a e = (let h : r ≡ a = cc e in ap (λ (v : IRNode). node_at t v p) h)
place-append t (j ∷ q) p r a e =
    let z = and_then-some (λ c. node_at t c q) (slice_get (t r) j) a e in
    step-down t r j z.0 (q ++ p) z.1 ∙ place-append t q p z.0 a z.2

pub place-split : (t : Tree) (q p : Place) (r n : IRNode) → node_at t r (q ++ p) ≡ Some n → (a : IRNode) ×
    (node_at t r q ≡ Some a) × (node_at t a p ≡ Some n)
place-split t [] p r n e = (r, refl, e)
place-split t (j ∷ q) p r n e =
    let z = and_then-some (λ c. node_at t c (q ++ p)) (slice_get (t r) j) n e in
    let y = place-split t q p z.0 n z.2 in
    (y.0, step-down t r j z.0 q z.1 ∙ y.1, y.2)

module _ {C S B : Type 0} (w : WalkConfig) (u : Tree) (calls : List (Call C S B)) (d : Distinct (nodes_of calls)) where
  -- a child in the cut tree is one in the tree, at the same position
  pub cut-child : (m : IRNode) (i : ℕ) (c : IRNode) → slice_get (cut w calls u m) i ≡ Some c → (cut w calls u m ≡ u m) ×
      (order_of w m ≡ PreOrder → IsSkipped calls m → ⊥)
  cut-child m i c e = elim (cut-is w u calls m d) [
    | inl k ↦ absurd (none-some c (rw k.1 at e))
    | inr k ↦ (k.1, k.0)
  ]

  pub cut-place : (p : Place) (m n : IRNode) → node_at (cut w calls u) m p ≡ Some n → node_at u m p ≡ Some n
  cut-place [] m n e = e
  cut-place (i ∷ p) m n e =
      let z = and_then-some (λ c. node_at (cut w calls u) c p) (slice_get (cut w calls u m) i) n e in
      let k = (cut-child m i z.0 z.1).0 in
      step-down u m i z.0 p (sym (ap (λ (v : List IRNode). slice_get v i) k) ∙ z.1) ∙ cut-place p z.0 n z.2

  pub cut-before : (p q : Place) (m a b : IRNode) → node_at (cut w calls u) m p ≡ Some a → node_at (cut w calls u) m q ≡
      Some b → Before w (cut w calls u) m p q → Before w u m p q
  cut-before [] [] m a b ea eb h = h
  cut-before [] (j ∷ q) m a b ea eb h = h
  cut-before (i ∷ p) [] m a b ea eb h = h
  cut-before (i ∷ p) (j ∷ q) m a b ea eb (inl h) = inl h
  cut-before (i ∷ p) (j ∷ q) m a b ea eb (inr h) =
      let x = and_then-some (λ c. node_at (cut w calls u) c p) (slice_get (cut w calls u m) i) a ea in
      let y = and_then-some (λ c. node_at (cut w calls u) c q) (slice_get (cut w calls u m) j) b eb in
      let k = (cut-child m i x.0 x.1).0 in
      let is : slice_get (u m) i ≡ Some x.0 = sym (ap (λ (v : List IRNode). slice_get v i) k) ∙ x.1 in
      let y1 : slice_get (cut w calls u m) i ≡ Some y.0 = subst
      (λ (v : ℕ). slice_get (cut w calls u m) v ≡ Some y.0) (sym h.0) y.1 in
      let xy : y.0 ≡ x.0 = (let e = sym y1 ∙ x.1 in cc e) in
      let eb' : node_at (cut w calls u) x.0 q ≡ Some b = subst
      (λ (v : IRNode). node_at (cut w calls u) v q ≡ Some b) xy y.2 in
      let h1 : Before w (cut w calls u) x.0 p q = subst (λ (v : Option IRNode). MatchOption v ⊥
      (λ c. Before w (cut w calls u) c p q)) x.1 h.1 in
      inr (
        h.0,
        subst (λ (v : Option IRNode). MatchOption v ⊥ (λ c. Before w u c p q)) (sym is)
            (cut-before p q x.0 a b x.2 eb' h1),
      )

  pub cut-node-before : (r a b : IRNode) → NodeBefore w (cut w calls u) r a b → NodeBefore w u r a b
  cut-node-before r a b h = record {
    place_a = h.place_a;
    place_b = h.place_b;
    at_a = cut-place h.place_a r a h.at_a;
    at_b = cut-place h.place_b r b h.at_b;
    before = cut-before h.place_a h.place_b r a b h.at_a h.at_b h.before;
  }

  -- a place in the tree is one in the cut tree, unless the node on the way is PreOrder and was called with Skip
  pub open-place : (p : Place) (m n : IRNode) → node_at u m p ≡ Some n
      → ((q : Place) (a : IRNode) (i : ℕ) (o : Place) → node_at u m q ≡ Some a → node_at u a (i ∷ o) ≡ Some n → order_of
      w a ≡ PreOrder → IsSkipped calls a → ⊥)
      → node_at (cut w calls u) m p ≡ Some n
  open-place [] m n e h = e
  open-place (i ∷ p) m n e h =
      let z = and_then-some (λ c. node_at u c p) (slice_get (u m) i) n e in
      elim (cut-is w u calls m d) [
        | inl k ↦ absurd (h [] m i p refl e k.0.0 k.0.1)
        | inr k ↦ step-down (cut w calls u) m i z.0 p (ap (λ (v : List IRNode). slice_get v i) k.1 ∙ z.1)
            ∙ open-place p z.0 n z.2 (λ q a j o g f. h (i ∷ q) a j o (step-down u m i z.0 q z.1 ∙ g) f)
      ]

  -- under the root of the cut tree are exactly the due nodes
  pub under-due : (r n : IRNode) → HasOnePlaceEach u r → IsUnder (cut w calls u) r n → IsDue w u r calls n
  under-due r n one h = (
    (h.0, cut-place h.0 r n h.1),
    λ s.
        (let whole : node_at u r (s.under_root.0 ++ s.above.0 ∷ s.above.1) ≡ Some n = place-append u s.under_root.0
        (s.above.0 ∷ s.above.1) r s.ancestor s.under_root.1 ∙ s.above.2 in
        let same_place : h.0 ≡ s.under_root.0 ++ s.above.0 ∷ s.above.1 = one n h.0
        (s.under_root.0 ++ s.above.0 ∷ s.above.1) (cut-place h.0 r n h.1) whole in
        let e : node_at (cut w calls u) r (s.under_root.0 ++ s.above.0 ∷ s.above.1) ≡ Some n = subst
        (λ (v : Place). node_at (cut w calls u) r v ≡ Some n) same_place h.1 in
        let z = place-split (cut w calls u) s.under_root.0 (s.above.0 ∷ s.above.1) r n e in
        let a_is : z.0 ≡ s.ancestor = (let y = sym (cut-place s.under_root.0 r z.0 z.1) ∙ s.under_root.1 in cc y) in
        let child = and_then-some (λ c. node_at (cut w calls u) c s.above.1) (slice_get (cut w calls u z.0) s.above.0) n
        z.2 in
        (cut-child z.0 s.above.0 child.0 child.1).1 (subst (λ (v : IRNode). order_of w v ≡ PreOrder) (sym a_is) s.order)
        (subst (λ (v : IRNode). IsSkipped calls v) (sym a_is) s.skipped)),
  )

  pub due-under-cut : (r n : IRNode) → IsDue w u r calls n → IsUnder (cut w calls u) r n
  due-under-cut r n h = (
    h.0.0,
    open-place h.0.0 r n h.0.1 (λ q a i o g f pre skip. h.1
        (record { ancestor = a; under_root = (q, g); above = (i, o, f); order = pre; skipped = skip })),
  )
