-- Before is a total order, and what turns it round.
use Rattle.std.proofs.Common.{◌≡◌, ◌≢◌, ℕ, List, [], ◌∷◌, Option, Some, None, slice_get, MatchOption, ◌⊎◌, inl, inr}
use Rattle.std.proofs.Common.{reverse, refl, sym, ap, subst, arith, ◌∙◌}
use Rattle.std.proofs.lemmas.Bool.{cases_eq, cases_lt}
use Rattle.std.proofs.lemmas.List.{reverse-append}
use Rattle.std.specs.declared.ops.ControlFlow.TheVariants.{Continue}
use Rattle.plir_walk.specs.declared.config.TheConstants.{WALKCONFIG_PREORDER_FORWARD as pre_forward}
use Rattle.plir_walk.specs.declared.config.TheConstants.{WALKCONFIG_POSTORDER_REVERSE as post_reverse}
use Rattle.plir_walk.specs.Calls.{Advancing, Call, Chain, Relation, nodes_of}
use Rattle.plir_walk.specs.Config.{direction_of, order_of}
use Rattle.plir_walk.specs.Laws.{BeforeOrders, PostReverseIsPreForwardReversed, WalkedOnce}
use Rattle.plir_walk.specs.Lists.{Pairs}
use Rattle.plir_store.specs.Members.{Distinct, Has}
use Rattle.plir_walk.specs.Tree.{Before, Earlier, NodeBefore, Place, Tree, node_at}
use Rattle.plir_walk.specs.Walked.{IsCallUnder, WalkedOver}
use Rattle.plir_walk.specs.declared.config.Direction.{Direction}
use Rattle.plir_walk.specs.declared.config.Direction.TheVariants.{Forward, Reverse}
use Rattle.plir_walk.specs.declared.config.Order.{Order}
use Rattle.plir_walk.specs.declared.config.Order.TheVariants.{PostOrder, PreOrder}
use Rattle.plir_walk.specs.declared.config.WalkConfig.{WalkConfig}
use Rattle.plir_walk.specs.declared.interruptible.WalkContinue.TheVariants.{Advance}
use Rattle.plir_core.specs.declared.ptr.IRNode.{IRNode}
use Rattle.plir_core.specs.declared.ptr.IRNode.TheVariants.{BasicBlock, Operation, Region}
use Rattle.plir_core.specs.Forest.{Shape}
use Rattle.plir_walk.proofs.Corollaries.{node-before-asym}
use Rattle.plir_walk.proofs.Groves.{Has-reverse, and_then-some, no-both, reverse-Has}
use Rattle.plir_walk.proofs.ListLemmas.{Pairs-append, Pairs-map}

pub earlier-trans : (d : Direction) (i j k : ℕ) → Earlier d i j → Earlier d j k → Earlier d i k × (i ≢ k)
earlier-trans Forward i j k p q = (omega arith, omega arith)
earlier-trans Reverse i j k p q = (omega arith, omega arith)

pub before-trans : (w : WalkConfig) (t : Tree) (r : IRNode) (p q o : Place) → Before w t r p q → Before w t r q o →
    Before w t r p o
before-trans w t r [] [] o h k = absurd h
before-trans w t r [] (j ∷ q) [] h k = absurd (no-both (order_of w r) h k)
before-trans w t r [] (j ∷ q) (l ∷ o) h k = h
before-trans w t r (i ∷ p) [] [] h k = absurd k
before-trans w t r (i ∷ p) [] (l ∷ o) h k = absurd (no-both (order_of w r) k h)
before-trans w t r (i ∷ p) (j ∷ q) [] h k = k
before-trans w t r (i ∷ p) (j ∷ q) (l ∷ o) (inl h) (inl k) = let e = earlier-trans (direction_of w r) i j l h.1 k.1 in
    inl (e.1, e.0)
before-trans w t r (i ∷ p) (j ∷ q) (l ∷ o) (inl h) (inr k) = inl
    (subst (λ (v : ℕ). (i ≢ v) × Earlier (direction_of w r) i v) k.0 h)
before-trans w t r (i ∷ p) (j ∷ q) (l ∷ o) (inr h) (inl k) = inl
    (subst (λ (v : ℕ). (v ≢ l) × Earlier (direction_of w r) v l) (sym h.0) k)
before-trans w t r (i ∷ p) (j ∷ q) (l ∷ o) (inr h) (inr k) =
    inr (
      h.0 ∙ k.0,
      go (slice_get (t r) i) h.1 (subst (λ (v : ℕ). MatchOption (slice_get (t r) v) ⊥
          (λ c. Before w t c q o)) (sym h.0) k.1) (λ c u v. before-trans w t c p q o u v),
    )
  where
    go : (x : Option IRNode) → MatchOption x ⊥ (λ c. Before w t c p q) → MatchOption x ⊥ (λ c. Before w t c q o) →
        ((c : IRNode) → Before w t c p q → Before w t c q o → Before w t c p o) → MatchOption x ⊥
        (λ c. Before w t c p o)
    go None u v ih = u
    go (Some c) u v ih = ih c u v

pub order-cases : (o : Order) → (o ≡ PreOrder) ⊎ (o ≡ PostOrder)
order-cases PreOrder = inl refl
order-cases PostOrder = inr refl

pub earlier-cases : (d : Direction) (i j : ℕ) → i ≢ j → Earlier d i j ⊎ Earlier d j i
earlier-cases Forward i j n = elim (cases_lt i j) [ inl h ↦ inl h | inr h ↦ inr (omega (arith, n)) ]
earlier-cases Reverse i j n = elim (cases_lt i j) [ inl h ↦ inr h | inr h ↦ inl (omega (arith, n)) ]

pub before-total : (w : WalkConfig) (t : Tree) (r a b : IRNode) (p q : Place) → node_at t r p ≡ Some a → node_at t r q ≡
    Some b → (p ≡ q) ⊎ (Before w t r p q ⊎ Before w t r q p)
before-total w t r a b [] [] e g = inl refl
before-total w t r a b [] (j ∷ q) e g = elim (order-cases (order_of w r)) [ inl h ↦ inr (inl h) | inr h ↦ inr (inr h) ]
before-total w t r a b (i ∷ p) [] e g = elim (order-cases (order_of w r)) [ inl h ↦ inr (inr h) | inr h ↦ inr (inl h) ]
before-total w t r a b (i ∷ p) (j ∷ q) e g = elim (cases_eq i j) [
  | inl h ↦
      (let x = and_then-some (λ c. node_at t c p) (slice_get (t r) i) a e in
      let y = and_then-some (λ c. node_at t c q) (slice_get (t r) j) b g in
      let y1 : slice_get (t r) i ≡ Some y.0 = subst (λ (v : ℕ). slice_get (t r) v ≡ Some y.0) (sym h) y.1 in
      let yx : y.0 ≡ x.0 = (let z = sym y1 ∙ x.1 in cc z) in
      let x2 : slice_get (t r) j ≡ Some x.0 = subst (λ (v : ℕ). slice_get (t r) v ≡ Some x.0) h x.1 in
      elim (before-total w t x.0 a b p q x.2 (subst (λ (v : IRNode). node_at t v q ≡ Some b) yx y.2)) [
        | inl k ↦ inl (rw (h, k) refl)
        | inr k ↦ inr (elim k [
          | inl z ↦ inl (inr (h, subst (λ (v : Option IRNode). MatchOption v ⊥ (λ c. Before w t c p q)) (sym x.1) z))
          | inr z ↦ inr (inr (sym h, subst (λ (v : Option IRNode). MatchOption v ⊥ (λ c. Before w t c q p)) (sym x2) z))
        ])
      ])
  | inr h ↦ inr (elim (earlier-cases (direction_of w r) i j h) [
    | inl z ↦ inl (inl (h, z))
    | inr z ↦ inr
        (inl (λ k. h (sym k), z))
  ])
]

pub total-order : BeforeOrders
total-order w t r one = record {
  irreflexive = λ a h. node-before-asym w t r a a one h h;
  transitive = λ a b c h k. record {
    place_a = h.place_a;
    place_b = k.place_b;
    at_a = h.at_a;
    at_b = k.at_b;
    before = before-trans w t r h.place_a h.place_b k.place_b h.before
        (subst (λ (v : Place). Before w t r v k.place_b) (one b k.place_a h.place_b k.at_a h.at_b) k.before);
  };
  total = λ a b u v ne. elim (before-total w t r a b u.0 v.0 u.1 v.1) [
    | inl e ↦ absurd (ne (let z = sym u.1 ∙ (ap (node_at t r) e ∙ v.1) in cc z))
    | inr e ↦ elim e [
      | inl z ↦ inl (record { place_a = u.0; place_b = v.0; at_a = u.1; at_b = v.1; before = z })
      | inr z ↦ inr (record { place_a = v.0; place_b = u.0; at_a = v.1; at_b = u.1; before = z })
    ]
  ];
}

-- two settings that turn each other round

abbrev pub flip : Order → Order
flip PreOrder = PostOrder
flip PostOrder = PreOrder

abbrev pub turn : Direction → Direction
turn Forward = Reverse
turn Reverse = Forward

pub record Opposite (w v : WalkConfig) : Type 0 where
  pub orders : (n : IRNode) → order_of v n ≡ flip (order_of w n)
  pub directions : (n : IRNode) → direction_of v n ≡ turn (direction_of w n)

pub flip-pre : (o : Order) → o ≡ PreOrder → flip o ≡ PostOrder
flip-pre PreOrder h = refl
flip-pre PostOrder h = absurd (no-both PostOrder h refl)

pub flip-post : (o : Order) → o ≡ PostOrder → flip o ≡ PreOrder
flip-post PostOrder h = refl
flip-post PreOrder h = absurd (no-both PreOrder refl h)

pub turn-earlier : (d : Direction) (i j : ℕ) → Earlier d i j → Earlier (turn d) j i
turn-earlier Forward i j h = h
turn-earlier Reverse i j h = h

pub before-opposite : (w v : WalkConfig) (x : Opposite w v) (t : Tree) (r : IRNode) (p q : Place) → Before w t r p q →
    Before v t r q p
before-opposite w v x t r [] [] h = h
before-opposite w v x t r [] (j ∷ q) h = x.orders r ∙ flip-pre (order_of w r) h
before-opposite w v x t r (i ∷ p) [] h = x.orders r ∙ flip-post (order_of w r) h
before-opposite w v x t r (i ∷ p) (j ∷ q) (inl h) = inl (
  λ k. h.0 (sym k),
  subst (λ (d : Direction). Earlier d j i)
      (sym (x.directions r)) (turn-earlier (direction_of w r) i j h.1),
)
before-opposite w v x t r (i ∷ p) (j ∷ q) (inr h) = inr (
  sym h.0,
  subst (λ (k : ℕ). MatchOption (slice_get (t r) k) ⊥
      (λ c. Before v t c q p)) h.0 (go (slice_get (t r) i) h.1 (λ c u. before-opposite w v x t c p q u)),
)
  where
    go : (o : Option IRNode) → MatchOption o ⊥ (λ c. Before w t c p q) → ((c : IRNode) → Before w t c p q → Before v t c
        q p) → MatchOption o ⊥ (λ c. Before v t c q p)
    go None u ih = u
    go (Some c) u ih = ih c u

pub node-before-opposite : (w v : WalkConfig) (x : Opposite w v) (t : Tree) (r a b : IRNode) → NodeBefore w t r a b →
    NodeBefore v t r b a
node-before-opposite w v x t r a b h = record {
  place_a = h.place_b;
  place_b = h.place_a;
  at_a = h.at_b;
  at_b = h.at_a;
  before = before-opposite w v x t r h.place_a h.place_b h.before;
}

pub forward-back : Opposite pre_forward post_reverse
forward-back = record {
  orders = elim [ Operation p ↦ refl | BasicBlock p ↦ refl | Region p ↦ refl ];
  directions = elim [ Operation p ↦ refl | BasicBlock p ↦ refl | Region p ↦ refl ];
}

pub back-forward : Opposite post_reverse pre_forward
back-forward = record {
  orders = elim [ Operation p ↦ refl | BasicBlock p ↦ refl | Region p ↦ refl ];
  directions = elim [ Operation p ↦ refl | BasicBlock p ↦ refl | Region p ↦ refl ];
}

-- lists in order

pub Pairs-reverse : (R : IRNode → IRNode → Type 0) (xs : List IRNode) → Pairs R xs → Pairs (λ a b. R b a) (reverse xs)
Pairs-reverse R [] h = h
Pairs-reverse R (x ∷ xs) h =
    subst (λ (v : List IRNode). Pairs (λ a b. R b a) v) (sym (reverse-append (x ∷ []) xs))
    (Pairs-append (λ a b. R b a) (reverse xs) (x ∷ []) (Pairs-reverse R xs h.1) (λ y k. absurd k, tt)
    (λ a b i k. elim k [
      | inl e ↦ subst (λ (v : IRNode). R v a) e (h.0 a (Has-reverse xs a i))
      | inr z ↦ absurd z
    ]))

pub Pairs-distinct : {A : Type 0} (R : A → A → Type 0) (xs : List A) → ((a : A) → R a a → ⊥) → Pairs R xs → Distinct xs
Pairs-distinct R [] i h = tt
Pairs-distinct R (x ∷ xs) i h = (λ k. i x (h.0 x k), Pairs-distinct R xs i h.1)

-- two lists in one order with the same elements are the same
pub ordered-same : (R : IRNode → IRNode → Type 0) → ((a b : IRNode) → R a b → R b a → ⊥) → (xs ys : List IRNode) → Pairs
    R xs → Pairs R ys → ((n : IRNode) → Has xs n → Has ys n) → ((n : IRNode) → Has ys n → Has xs n) → xs ≡ ys
ordered-same R asym [] [] p q f g = refl
ordered-same R asym [] (y ∷ ys) p q f g = absurd (g y (inl refl))
ordered-same R asym (x ∷ xs) [] p q f g = absurd (f x (inl refl))
ordered-same R asym (x ∷ xs) (y ∷ ys) p q f g =
    let xy : x ≡ y = elim (f x (inl refl)) [
      | inl e ↦ sym e
      | inr h ↦ elim (g y (inl refl)) [ inl e ↦ e | inr k ↦ absurd (asym x y (p.0 y k) (q.0 x h)) ]
    ] in
    let dx = λ (h : Has xs x). asym x x (p.0 x h) (p.0 x h) in
    let dy = λ (h : Has ys y). asym y y (q.0 y h) (q.0 y h) in
    let rest = ordered-same R asym xs ys p.1 q.1
    (λ n h. elim (f n (inr h)) [ inl e ↦ absurd (dx (subst (λ (v : IRNode). Has xs v) (sym (xy ∙ e)) h)) | inr k ↦ k ])
    (λ n h. elim (g n (inr h)) [
      | inl e ↦ absurd (dy (subst (λ (v : IRNode). Has ys v) (sym (sym xy ∙ e)) h))
      | inr k ↦ k
    ]) in
    rw (xy, rest) refl

pub reversed : PostReverseIsPreForwardReversed
reversed t r one = record {
  before = λ a b. (
    λ h. node-before-opposite post_reverse pre_forward back-forward t r a b h,
    λ h. node-before-opposite
        pre_forward post_reverse forward-back t r b a h,
  );
  traversal = λ ns ms x y. ordered-same (NodeBefore post_reverse t r) (λ a b h k. node-before-asym post_reverse t r a b
      one h k) ns (reverse ms) x.increasing
      (Pairs-map (λ a b. NodeBefore pre_forward t r b a) (NodeBefore post_reverse t r) (reverse ms)
      (λ a b h. node-before-opposite pre_forward post_reverse forward-back t r b a h)
      (Pairs-reverse (NodeBefore pre_forward t r) ms y.increasing))
      (λ n h. reverse-Has ms n ((y.exactly n).1 ((x.exactly n).0 h)))
      (λ n h. (x.exactly n).1 ((y.exactly n).0 (Has-reverse ms n h)));
}

-- a walk whose callback always advances calls each node once

pub Chain-each : {C S B : Type 0} (P : Relation C S B) (c : C) (s : S) (xs : List (Call C S B)) (c' : C) (s' : S) →
    Chain P c s xs c' s' → (x : Call C S B) → Has xs x → P x.before x.state x.node x.answer x.after x.left
Chain-each P c s [] c' s' h x k = absurd k
Chain-each P c s (y ∷ xs) c' s' h x (inl e) = subst (λ (v : Call _ _ _). P v.before v.state v.node v.answer v.after
    v.left) e h.2
Chain-each P c s (y ∷ xs) c' s' h x (inr k) = Chain-each P y.after y.left xs c' s' h.3 x k

pub once : {C S : Type 0} (look : C → Shape) (w : WalkConfig) (plain : C → S → IRNode → Unit {0} → C → S → Type 0)
    (c : C) (s : S) (r : IRNode) (s' : S)
    → WalkedOver look w (Advancing plain) c s r (Continue Advance) s' → WalkedOnce look w (Advancing plain) c s r s'
once look w plain c s r s' h =
    let order = total-order w (look c).children r h.walk.in_order.one_place in
    record {
      calls = h.calls;
      chain = h.chain;
      each_once = record {
        exactly = λ n. (
          h.walk.in_order.under_root n,
          λ u. (h.walk.answers.2 n).1 (
            u,
            λ o.
                (let k = Chain-each (IsCallUnder look r (Advancing plain)) c s h.calls c s' h.chain o.skipped.0
                o.skipped.1 in
                let e = sym k.made.0 ∙ o.skipped.3 in
                let z : ⊥ = cc e in z),
          ),
        );
        once = Pairs-distinct (NodeBefore w (look c).children r) (nodes_of h.calls) order.irreflexive
            h.walk.in_order.increasing;
        increasing = h.walk.in_order.increasing;
      };
    }
