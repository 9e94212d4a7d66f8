-- From what a walk keeps to what it promises.
use Rattle.std.proofs.Common.{◌≡◌, ℕ, ◌≤◌, List, [], ◌∷◌, ◌++◌, Some, slice_get, Ok, Err, Result, inl, inr, length}
use Rattle.std.proofs.Common.{refl, sym, ap, subst, ◌∙◌}
use Rattle.std.specs.declared.ops.ControlFlow.{ControlFlow}
use Rattle.std.specs.declared.ops.ControlFlow.TheVariants.{Break, Continue}
use Rattle.plir_walk.specs.AsRead.{children_by, tree_read}
use Rattle.plir_walk.specs.Calls.{Call, Chain, Relation, nodes_of}
use Rattle.plir_walk.specs.Config.{AllPost, AllPre, order_of}
use Rattle.plir_walk.specs.Lists.{Pairs}
use Rattle.plir_store.specs.Members.{Has}
use Rattle.plir_walk.specs.Tree.{HasOnePlaceEach, IsUnder, NodeBefore, Place, Tree, node_at, same}
use Rattle.plir_walk.specs.Walk.{Answers, AnswersWithin, CallsAllDue, CallsUpToLast, InOrder, IsDue, IsWalkWithin}
use Rattle.plir_walk.specs.Walked.{IsCallUnder, KeepsShape, Walked}
use Rattle.plir_walk.specs.declared.config.Order.{Order}
use Rattle.plir_walk.specs.declared.config.WalkConfig.{WalkConfig}
use Rattle.plir_walk.specs.declared.interruptible.WalkContinue.{WalkContinue}
use Rattle.plir_walk.specs.declared.limit.CallLimit.{CallLimit}
use Rattle.plir_core.specs.declared.ptr.IRNode.{IRNode}
use Rattle.plir_core.specs.Forest.{IsBelow, IsForest, Shape}
use Rattle.plir_store.specs.MemberLaws.{Has-append_cases, Has-append_right, Has-at}
use Rattle.plir_walk.specs.Step.{after}
use Rattle.plir_walk.proofs.Climbs.{not-below-itself, same-branch}
use Rattle.plir_walk.proofs.Corollaries.{Ends, EndsWithin, ends-same, node-before-asym, visits-same}
use Rattle.plir_walk.proofs.Cuts.{cut-node-before, cut-post, cut-read, due-under-cut, under-due}
use Rattle.plir_walk.proofs.Endings.{place-below, place-below-child}
use Rattle.plir_walk.proofs.Groves.{and_then-some}
use Rattle.plir_walk.proofs.ListLemmas.{Pairs-cross, Pairs-map}
use Rattle.plir_walk.proofs.Nodes.{same_tells}
use Rattle.plir_walk.proofs.Places.{index-once}
use Rattle.plir_walk.proofs.Results.{Visits}
use Rattle.plir_walk.proofs.Stages.{cut, cut-same, nodes-append}
use Rattle.plir_walk.proofs.Heights.{deeper, depth_in}

-- in a forest each node has one place
pub forest-one-place : (s : Shape) (f : IsForest s) (p q : Place) (r n : IRNode) → node_at s.children r p ≡ Some n →
    node_at s.children r q ≡ Some n → p ≡ q
forest-one-place s f [] [] r n e g = refl
forest-one-place s f [] (j ∷ q) r n e g = absurd (not-below-itself s f n (let h : r ≡ n = cc e in subst
    (λ (v : IRNode). IsBelow s v n) h (place-below-child s f r n j q g)))
forest-one-place s f (i ∷ p) [] r n e g = absurd (not-below-itself s f n (let h : r ≡ n = cc g in subst
    (λ (v : IRNode). IsBelow s v n) h (place-below-child s f r n i p e)))
forest-one-place s f (i ∷ p) (j ∷ q) r n e g =
    let x = and_then-some (λ c. node_at s.children c p) (slice_get (s.children r) i) n e in
    let y = and_then-some (λ c. node_at s.children c q) (slice_get (s.children r) j) n g in
    let ux : s.parent x.0 ≡ Some r = f.child_parent r x.0 (Has-at (s.children r) i x.0 x.1) in
    let uy : s.parent y.0 ≡ Some r = f.child_parent r y.0 (Has-at (s.children r) j y.0 y.1) in
    let dp : depth_in s x.0 ≡ depth_in s y.0 = deeper s f r x.0 ux ∙ sym (deeper s f r y.0 uy) in
    let xy : x.0 ≡ y.0 = same-branch s f x.0 y.0 n dp (place-below s f x.0 n p x.2) (place-below s f y.0 n q y.2) in
    let ij : i ≡ j = index-once (s.children r) i j y.0 (f.once r) (x.1 ∙ ap Some xy) y.1 in
    let pq : p ≡ q = forest-one-place s f p q y.0 n (subst (λ (v : IRNode). node_at s.children v p ≡ Some n) xy x.2) y.2
    in
    rw (ij, pq) refl

module _ {C S B : Type 0} (w : WalkConfig) (u : Tree) (r : IRNode) (calls : List (Call C S B))
    (one : HasOnePlaceEach u r) (v : Visits w (cut w calls u) r (nodes_of calls)) where
  pub ordered : InOrder w u r calls
  ordered = record {
    one_place = one;
    under_root = λ n h. (under-due w u calls v.distinct r n one (v.under_root n h)).0;
    increasing = Pairs-map (NodeBefore w (cut w calls u) r) (NodeBefore w u r) (nodes_of calls)
        (λ a b h. cut-node-before w u calls v.distinct r a b h) v.increasing;
  }

  pub all-due : ((n : IRNode) → IsUnder (cut w calls u) r n → Has (nodes_of calls) n) → CallsAllDue w u r (IsDue w u r)
      calls
  all-due all n = (
    λ h. under-due w u calls v.distinct r n one (v.under_root n h),
    λ h. all n (due-under-cut w u calls v.distinct r n h),
  )

  pub up-to-last : CallsUpToLast w u r (IsDue w u r) calls calls
  up-to-last front end e n =
      let ns : nodes_of calls ≡ nodes_of front ++ end.node ∷ [] = ap nodes_of e ∙ nodes-append front (end ∷ []) in
      let pairs : Pairs (NodeBefore w u r) (nodes_of front ++ end.node ∷ []) = subst
      (λ (z : List IRNode). Pairs (NodeBefore w u r) z) ns ordered.increasing in
      let asym = λ (a b : IRNode). node-before-asym w u r a b one in (
        λ h. (
          under-due w u calls v.distinct r n one (v.under_root n h),
          λ b. elim (Has-append_cases (nodes_of front) (end.node ∷ []) n (subst (λ (z : List IRNode). Has z n) ns h)) [
            | inl i ↦ asym end.node n b (Pairs-cross (NodeBefore w u r) (nodes_of front) (end.node ∷ []) pairs n
                end.node i (inl refl))
            | inr i ↦ elim i [
              | inl g ↦ (let b' : NodeBefore w u r n n = subst
                  (λ (z : IRNode). NodeBefore w u r z n) g b in asym n n b' b')
              | inr g ↦ g
            ]
          ],
        ),
        λ h. elim (v.none_left_out n (due-under-cut w u calls v.distinct r n h.0)) [
          | inl i ↦ i
          | inr i ↦ absurd (h.1 (cut-node-before w u calls v.distinct r end.node n
              (i end.node (subst (λ (z : List IRNode). Has z end.node) (sym ns) (Has-append_right (nodes_of front)
              (end.node ∷ []) end.node (inl refl))))))
        ],
      )

  pub answered : (a : ControlFlow B WalkContinue) → Ends (cut w calls u) r calls a → Answers w u r calls a
  answered (Continue k) h = (h.0, h.1, all-due h.2)
  answered (Break b) h = (h, up-to-last)

  pub answered-within : (limit : ℕ) (a : Result (ControlFlow B WalkContinue) CallLimit) → EndsWithin (cut w calls u) r
      limit calls a → AnswersWithin w u r limit calls a
  answered-within limit (Ok a) h = answered a h
  answered-within limit (Err x) h = (
    h.0,
    h.1,
    up-to-last,
    (
      h.2.0,
      under-due w u calls v.distinct r h.2.0 one h.2.1,
      h.2.2,
    ),
  )

  pub walk-within : (limit : ℕ) (a : Result (ControlFlow B WalkContinue) CallLimit) → length calls ≤ limit → EndsWithin
      (cut w calls u) r limit calls a → IsWalkWithin w u r limit calls a
  walk-within limit a within h = record { in_order = ordered; within = within; answers = answered-within limit a h }

-- Calls that keep the shape read the tree that was there from the start, but for what was skipped.
pub still-read : {C S B : Type 0} (look : C → Shape) (w : WalkConfig) (r : IRNode) (post : Relation C S B) → KeepsShape
    look r post
    → (xs : List (Call C S B)) (c : C) (s : S) (e : C) (st : S) → Chain (IsCallUnder look r post) c s xs e st
    → (n : IRNode) → tree_read look w xs e n ≡ cut w xs (look c).children n
still-read look w r post still [] c s e st h n = ap (λ v. (look v).children n) h.0
still-read look w r post still (x ∷ xs) c s e st h n =
    let was : (look x.before).children n ≡ (look c).children n = ap (λ v. (look v).children n) h.0 in
    let is : (look x.after).children n ≡ (look x.before).children n = (still x.before x.state x.node x.answer x.after
    x.left h.2).children n in
    let ih : tree_read look w xs e n ≡ cut w xs (look x.after).children n = still-read look w r post still xs x.after
    x.left e st h.3 n in
    let tail : tree_read look w xs e n ≡ cut w xs (look c).children n = ih ∙ cut-same w xs (look x.after).children
    (look c).children n (is ∙ was) in
    elim (same_tells x.node n) [
      | inl k ↦ rw k.0 (ap (λ (v : Order). children_by v x.answer ((look x.before).children x.node)
          ((look x.after).children x.node)) (ap (order_of w) k.1)
          ∙ here (order_of w n) ((look c).children n) ((look x.before).children x.node) ((look x.after).children x.node)
          x.answer
          (ap (look x.before).children k.1 ∙ was) (ap (look x.after).children k.1 ∙ (is ∙ was)))
      | inr k ↦ rw k.0 tail
    ]
  where
    here : {B : Type 0} (o : Order) (u p q : List IRNode) (a : ControlFlow B WalkContinue) → p ≡ u → q ≡ u → children_by
        o a p q ≡ children_by o a u u
    here o u p q a h k = rw (h, k) refl

-- A walk of the tree as it is read is one of the trees at the entry and the exit, where these are read.
pub walked-of : {C S B : Type 0} (look : C → Shape) (w : WalkConfig) (post : Relation C S B) (c : C) (s : S)
    (r : IRNode) (limit : ℕ) (a : Result (ControlFlow B WalkContinue) CallLimit) (c' : C) (s' : S)
    (calls : List (Call C S B)) → IsForest (look c) → IsForest (look c') → Chain (IsCallUnder look r post) c s calls c'
    s' → length calls ≤ limit
    → Visits w (tree_read look w calls c') r (nodes_of calls) → EndsWithin (tree_read look w calls c') r limit calls a
    → (AllPre w → (n : IRNode) → tree_read look w calls c' n ≡ cut w calls (look c').children n)
    → (AllPost w → (n : IRNode) → IsUnder (tree_read look w calls c') r n → tree_read look w calls c' n ≡
    (look c).children n)
    → Walked look w post c s r limit a c' s'
walked-of {C} {S} {B} look w post c s r limit a c' s' calls f f' chain within visits ends pre after =
    let t : Tree = tree_read look w calls c' in
    record {
      calls = calls;
      chain = chain;
      as_read = same_as t visits.one_place (λ n k. cut-read look w calls c' n);
      at_exit = λ all. same_as (look c').children (λ n p q e g. forest-one-place (look c') f' p q r n e g)
          (λ n k. sym (pre all n));
      at_entry = λ all. same_as (look c).children (λ n p q e g. forest-one-place (look c) f p q r n e g)
          (λ n k. cut-post w (look c).children calls all n ∙ sym (after all n k));
      unchanged = λ keep. same_as (look c).children (λ n p q e g. forest-one-place (look c) f p q r n e g)
          (λ n k. sym (still-read look w r post keep calls c s c' s' chain n));
    }
  where
    same_as : (u : Tree) → HasOnePlaceEach u r → ((n : IRNode) → IsUnder (tree_read look w calls c') r n → cut w calls u
        n ≡ tree_read look w calls c' n) → IsWalkWithin w u r limit calls a
    same_as u one same = walk-within w u r calls one (visits-same w (tree_read look w calls c') (cut w calls u) r
        (nodes_of calls) same visits) limit a within
        (ends-same (tree_read look w calls c') (cut w calls u) r limit calls a same ends)
