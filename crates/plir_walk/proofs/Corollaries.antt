-- Trees that agree under the root, and the order of nodes.
use Rattle.std.proofs.Common.{◌≡◌, ℕ, List, [], ◌∷◌, Option, Some, None, slice_get, inl, inr, length, refl, sym, subst}
use Rattle.std.proofs.Common.{arith, ◌∙◌, option_and_then}
use Rattle.std.proofs.Common.{Ok, Err, Result, MatchOption, length}
use Rattle.std.specs.declared.ops.ControlFlow.{ControlFlow}
use Rattle.std.specs.declared.ops.ControlFlow.TheVariants.{Break, Continue}
use Rattle.plir_walk.specs.Calls.{Call, NoBreak, nodes_of}
use Rattle.plir_walk.specs.Config.{direction_of, order_of}
use Rattle.plir_store.specs.Members.{Has}
use Rattle.plir_walk.specs.Tree.{Before, Earlier, HasOnePlaceEach, IsUnder, NodeBefore, Place, Tree, node_at}
use Rattle.plir_walk.specs.Walk.{LastBreaks}
use Rattle.plir_walk.specs.declared.config.Direction.{Direction}
use Rattle.plir_walk.specs.declared.config.Direction.TheVariants.{Forward, Reverse}
use Rattle.plir_walk.specs.declared.config.WalkConfig.{WalkConfig}
use Rattle.plir_walk.specs.declared.interruptible.WalkContinue.{WalkContinue}
use Rattle.plir_walk.specs.declared.interruptible.WalkContinue.TheVariants.{Advance}
use Rattle.plir_walk.specs.declared.limit.CallLimit.{CallLimit}
use Rattle.plir_core.specs.declared.ptr.IRNode.{IRNode}
use Rattle.plir_core.specs.Forest.{Shape}
use Rattle.plir_walk.specs.Lawful.{Lawful}
use Rattle.plir_walk.proofs.Groves.{no-both, step-down}
use Rattle.plir_walk.proofs.ListLemmas.{Pairs-map}
use Rattle.plir_walk.proofs.Results.{Visits}

pub same-tree : (t u : Tree) → ((n : IRNode) → t n ≡ u n) → t ≡ u
same-tree t u h = λ i n. h n i

pub unchanged-lawful : (s s' : Shape) (n : IRNode) → s' ≡ s → Lawful s n s'
unchanged-lawful s s' n e = subst (λ (v : Shape). Lawful s n v) (sym e) (record {
  kept = λ m v b. (v, refl, λ k. refl);
  below = λ m b. inl b;
  given = λ m g. g;
})

-- Two trees that agree at each node under r have the same places under r.

pub node-same : (t u : Tree) (p : Place) (r : IRNode) → ((n : IRNode) → IsUnder t r n → u n ≡ t n) → node_at u r p ≡
    node_at t r p
node-same t u [] r h = refl
node-same t u (i ∷ p) r h = rw (h r ([], refl)) (go (slice_get (t r) i) refl (λ c k. node-same t u p c k))
  where
    go : (o : Option IRNode) → slice_get (t r) i ≡ o → ((c : IRNode) → ((n : IRNode) → IsUnder t c n → u n ≡ t n) →
        node_at u c p ≡ node_at t c p) → option_and_then (λ c. node_at u c p) o ≡ option_and_then (λ c. node_at t c p) o
    go None e ih = refl
    go (Some c) e ih = ih c (λ n k. h n (i ∷ k.0, step-down t r i c k.0 e ∙ k.1))

pub before-same : (w : WalkConfig) (t u : Tree) (p q : Place) (r : IRNode) → ((n : IRNode) → IsUnder t r n → u n ≡ t n)
    → Before w t r p q → Before w u r p q
before-same w t u [] [] r h b = b
before-same w t u [] (j ∷ q) r h b = b
before-same w t u (i ∷ p) [] r h b = b
before-same w t u (i ∷ p) (j ∷ q) r h b = rw (h r ([], refl)) (elim b [
  | inl k ↦ inl k
  | inr k ↦ inr (k.0, go (slice_get (t r) i) refl (λ c z v. before-same w t u p q c z v) k.1)
])
  where
    go : (o : Option IRNode) → slice_get (t r) i ≡ o → ((c : IRNode) → ((n : IRNode) → IsUnder t c n → u n ≡ t n) →
        Before w t c p q → Before w u c p q) → MatchOption o ⊥
        (λ c. Before w t c p q) → MatchOption o ⊥ (λ c. Before w u c p q)
    go None e ih k = k
    go (Some c) e ih k = ih c (λ n v. h n (i ∷ v.0, step-down t r i c v.0 e ∙ v.1)) k

pub under-same : (t u : Tree) (r : IRNode) → ((n : IRNode) → IsUnder t r n → u n ≡ t n) → (n : IRNode) → IsUnder u r n →
    IsUnder t r n
under-same t u r h n k = (k.0, sym (node-same t u k.0 r h) ∙ k.1)

pub same-under : (t u : Tree) (r : IRNode) → ((n : IRNode) → IsUnder t r n → u n ≡ t n) → (n : IRNode) → IsUnder t r n →
    IsUnder u r n
same-under t u r h n k = (k.0, node-same t u k.0 r h ∙ k.1)

pub node-before-same : (w : WalkConfig) (t u : Tree) (r a b : IRNode) → ((n : IRNode) → IsUnder t r n → u n ≡ t n) →
    NodeBefore w t r a b → NodeBefore w u r a b
node-before-same w t u r a b h k = record {
  place_a = k.place_a;
  place_b = k.place_b;
  at_a = node-same t u k.place_a r h ∙ k.at_a;
  at_b = node-same t u k.place_b r h ∙ k.at_b;
  before = before-same w t u k.place_a k.place_b r h k.before;
}

pub visits-same : (w : WalkConfig) (t u : Tree) (r : IRNode) (ns : List IRNode) →
    ((n : IRNode) → IsUnder t r n → u n ≡ t n) → Visits w t r ns → Visits w u r ns
visits-same w t u r ns h k = record {
  one_place = λ n p q e g. k.one_place n p q (sym (node-same t u p r h) ∙ e) (sym (node-same t u q r h) ∙ g);
  increasing = Pairs-map (NodeBefore w t r) (NodeBefore w u r) ns
      (λ a b z. node-before-same w t u r a b h z) k.increasing;
  distinct = k.distinct;
  under_root = λ n z. same-under t u r h n (k.under_root n z);
  none_left_out = λ n z. elim (k.none_left_out n (under-same t u r h n z)) [
    | inl y ↦ inl y
    | inr y ↦ inr (λ m v. node-before-same w t u r m n h (y m v))
  ];
}

-- What an answer says of the calls, of a tree from which nothing is left out.
abbrev pub Ends : {C S B : Type 0} → Tree → IRNode → List (Call C S B) → ControlFlow B WalkContinue → Type 0
Ends t r calls (Continue k) = (k ≡ Advance) × NoBreak calls × ((n : IRNode) → IsUnder t r n → Has (nodes_of calls) n)
Ends t r calls (Break b) = LastBreaks calls b

abbrev pub EndsWithin : {C S B : Type 0} → Tree → IRNode → ℕ → List (Call C S B) → Result (ControlFlow B WalkContinue)
    CallLimit → Type 0
EndsWithin t r limit calls (Ok a) = Ends t r calls a
EndsWithin t r limit calls (Err x) = (length calls ≡ limit) × NoBreak calls × ((n : IRNode) × IsUnder t r n ×
    (Has (nodes_of calls) n → ⊥))

pub ends-same : {C S B : Type 0} (t u : Tree) (r : IRNode) (limit : ℕ) (calls : List (Call C S B))
    (a : Result (ControlFlow B WalkContinue) CallLimit)
    → ((n : IRNode) → IsUnder t r n → u n ≡ t n) → EndsWithin t r limit calls a → EndsWithin u r limit calls a
ends-same t u r limit calls (Ok (Continue x)) h k = (k.0, k.1, λ n z. k.2 n (under-same t u r h n z))
ends-same t u r limit calls (Ok (Break b)) h k = k
ends-same t u r limit calls (Err x) h k = (k.0, k.1, (k.2.0, same-under t u r h k.2.0 k.2.1, k.2.2))

-- Where each node has one place, to be before is a strict order.

pub earlier-asym : (d : Direction) (i j : ℕ) → Earlier d i j → Earlier d j i → ⊥
earlier-asym Forward i j p q = omega arith
earlier-asym Reverse i j p q = omega arith

pub before-asym : (w : WalkConfig) (t : Tree) (r : IRNode) (p q : Place) → Before w t r p q → Before w t r q p → ⊥
before-asym w t r [] [] h k = h
before-asym w t r [] (j ∷ q) h k = no-both (order_of w r) h k
before-asym w t r (i ∷ p) [] h k = no-both (order_of w r) k h
before-asym w t r (i ∷ p) (j ∷ q) h k = elim h [
  | inl a ↦ elim k [ inl b ↦ earlier-asym (direction_of w r) i j a.1 b.1 | inr b ↦ a.0 (sym b.0) ]
  | inr a ↦ elim k [
    | inl b ↦ b.0 (sym a.0)
    | inr b ↦ go (slice_get (t r) i) a.1 (subst (λ (v : ℕ). MatchOption (slice_get (t r) v) ⊥ (λ c. Before w t c q p))
        b.0 b.1) (λ c u v. before-asym w t c p q u v)
  ]
]
  where
    go : (o : Option IRNode) → MatchOption o ⊥ (λ c. Before w t c p q) → MatchOption o ⊥ (λ c. Before w t c q p) →
        ((c : IRNode) → Before w t c p q → Before w t c q p → ⊥) → ⊥
    go None u v ih = u
    go (Some c) u v ih = ih c u v

pub node-before-asym : (w : WalkConfig) (t : Tree) (r a b : IRNode) → HasOnePlaceEach t r → NodeBefore w t r a b →
    NodeBefore w t r b a → ⊥
node-before-asym w t r a b one h k =
    before-asym w t r h.place_a h.place_b h.before
    (subst (λ (v : Place). Before w t r v h.place_a) (one b k.place_a h.place_b k.at_a h.at_b)
    (subst (λ (v : Place). Before w t r k.place_a v) (one a k.place_b h.place_a k.at_b h.at_a) k.before))
