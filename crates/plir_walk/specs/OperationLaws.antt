-- Laws of walks that call at operations alone, for the proofs of passes: what is done at each node, taken at operations
-- alone, still goes from the entry to the exit, and is a walk of the operations.
use Rattle.std.proofs.Common.{◌≡◌, ℕ, Bool, true, false, cond, List, [], ◌∷◌, ◌++◌, Result, Ok, Err, inl, inr}
use Rattle.std.proofs.Common.{refl, sym, ap, subst, ◌∙◌}
use Rattle.std.specs.List.{filter}
use Rattle.std.proofs.lemmas.Bool.{cases_Bool, false≢true, true≢false}
use Rattle.std.proofs.lemmas.List.Elements.{filter-append}
use Rattle.std.specs.declared.ops.ControlFlow.{ControlFlow}
use Rattle.std.specs.declared.ops.ControlFlow.TheVariants.{Break, Continue}
use Rattle.plir_store.specs.MemberLaws.{Has-mid}
use Rattle.plir_store.specs.Members.{Has}
use Rattle.plir_core.specs.declared.ptr.IRNode.{IRNode}
use Rattle.plir_core.specs.declared.ptr.IRNode.TheVariants.{Operation, BasicBlock, Region}
use Rattle.plir_core.specs.Forest.{Shape}
use Rattle.plir_walk.specs.CallLaws.{chain-each}
use Rattle.plir_walk.specs.Calls.{Call, Chain, NoBreak, Relation, nodes_of}
use Rattle.plir_walk.specs.Lists.{Pairs}
use Rattle.plir_walk.specs.OperationWalks.{AreOperationsCalled, AtEachNode, AtOperations, IsOperationDue}
use Rattle.plir_walk.specs.OperationWalks.{OperationRelation, is_operation, operation_calls}
use Rattle.plir_walk.specs.ShutOut.{IsShutOut}
use Rattle.plir_walk.specs.Tree.{NodeBefore, Tree}
use Rattle.plir_walk.specs.Walk.{Answers, AnswersBy, CallsUpToLast, InOrder, IsDue, IsDueUpTo, IsWalk, IsWalkOf}
use Rattle.plir_walk.specs.Walk.{IsWalkWithin}
use Rattle.plir_walk.specs.Walked.{IsCallUnder}
use Rattle.plir_walk.specs.declared.config.WalkConfig.{WalkConfig}
use Rattle.plir_walk.specs.declared.limit.CallLimit.{CallLimit}
use Rattle.plir_walk.specs.declared.interruptible.WalkContinue.{WalkContinue}
use Rattle.plir_walk.specs.declared.interruptible.WalkContinue.TheVariants.{Advance}

-- ---- the list of calls at operations

-- the last of a list is one
last-same : {A : Type 0} (xs ys : List A) (x y : A) → xs ++ x ∷ [] ≡ ys ++ y ∷ [] → x ≡ y
last-same [] [] x y e = (let d : x ≡ y = cc e in d)
last-same [] (b ∷ []) x y e = absurd (let d : ⊥ = cc e in d)
last-same [] (b ∷ c ∷ ys) x y e = absurd (let d : ⊥ = cc e in d)
last-same (a ∷ []) [] x y e = absurd (let d : ⊥ = cc e in d)
last-same (a ∷ c ∷ xs) [] x y e = absurd (let d : ⊥ = cc e in d)
last-same (a ∷ xs) (b ∷ ys) x y e = last-same xs ys x y (let d : xs ++ x ∷ [] ≡ ys ++ y ∷ [] = cc e in d)

module _ {A : Type 0} (p : A → Bool) where
  Has-kept : (xs : List A) (y : A) → Has xs y → p y ≡ true → Has (filter p xs) y
  Has-kept [] y h e = absurd h
  Has-kept (x ∷ xs) y h e = by (p x) refl (λ k. Has-kept xs y k e) h
    where
      by : (b : Bool) → p x ≡ b → (Has xs y → Has (filter p xs) y) → Has (x ∷ xs) y →
          Has (cond b (x ∷ filter p xs) (filter p xs)) y
      by true d rest (inl g) = inl g
      by true d rest (inr k) = inr (rest k)
      by false d rest (inl g) = absurd (false≢true (sym d ∙ ap p g ∙ e))
      by false d rest (inr k) = rest k

  kept-Has : (xs : List A) (y : A) → Has (filter p xs) y → Has xs y
  kept-Has [] y h = h
  kept-Has (x ∷ xs) y h = by (p x) (λ k. kept-Has xs y k) h
    where
      by : (b : Bool) → (Has (filter p xs) y → Has xs y) → Has (cond b (x ∷ filter p xs) (filter p xs)) y →
          Has (x ∷ xs) y
      by true rest (inl g) = inl g
      by true rest (inr k) = inr (rest k)
      by false rest k = inr (rest k)

  last-kept : (xs : List A) (y : A) → p y ≡ true → filter p (xs ++ y ∷ []) ≡ filter p xs ++ y ∷ []
  last-kept xs y e = filter-append p xs (y ∷ []) ∙ ap (λ b. filter p xs ++ cond b (y ∷ []) []) e

module _ {C S B : Type 0} where
  abbrev ops : List (Call C S B) → List (Call C S B)
  ops xs = operation_calls xs

  pub ops-nodes : (xs : List (Call C S B)) (n : IRNode) → Has (nodes_of xs) n → is_operation n ≡ true →
      Has (nodes_of (ops xs)) n
  ops-nodes [] n h e = absurd h
  ops-nodes (x ∷ xs) n h e = by (is_operation x.node) refl (λ k. ops-nodes xs n k e) h
    where
      by : (b : Bool) → is_operation x.node ≡ b → (Has (nodes_of xs) n → Has (nodes_of (ops xs)) n) →
          Has (nodes_of (x ∷ xs)) n → Has (nodes_of (cond b (x ∷ ops xs) (ops xs))) n
      by true d rest (inl g) = inl g
      by true d rest (inr k) = inr (rest k)
      by false d rest (inl g) = absurd (false≢true (sym d ∙ ap is_operation g ∙ e))
      by false d rest (inr k) = rest k

  pub nodes-ops : (xs : List (Call C S B)) (n : IRNode) → Has (nodes_of (ops xs)) n →
      Has (nodes_of xs) n × (is_operation n ≡ true)
  nodes-ops [] n h = absurd h
  nodes-ops (x ∷ xs) n h = by (is_operation x.node) refl (λ k. nodes-ops xs n k) h
    where
      by : (b : Bool) → is_operation x.node ≡ b →
          (Has (nodes_of (ops xs)) n → Has (nodes_of xs) n × (is_operation n ≡ true)) →
          Has (nodes_of (cond b (x ∷ ops xs) (ops xs))) n → Has (nodes_of (x ∷ xs)) n × (is_operation n ≡ true)
      by true d rest (inl g) = (inl g, sym (ap is_operation g) ∙ d)
      by true d rest (inr k) = (let m = rest k in (inr m.0, m.1))
      by false d rest k = (let m = rest k in (inr m.0, m.1))

  ops-NoBreak : (xs : List (Call C S B)) → NoBreak xs → NoBreak (ops xs)
  ops-NoBreak [] h = tt
  ops-NoBreak (x ∷ xs) h = by (is_operation x.node) (ops-NoBreak xs h.1)
    where
      by : (b : Bool) → NoBreak (ops xs) → NoBreak (cond b (x ∷ ops xs) (ops xs))
      by true rest = (h.0, rest)
      by false rest = rest

  ops-Pairs : (R : IRNode → IRNode → Type 0) (xs : List (Call C S B)) → Pairs R (nodes_of xs) →
      Pairs R (nodes_of (ops xs))
  ops-Pairs R [] h = tt
  ops-Pairs R (x ∷ xs) h = by (is_operation x.node) (ops-Pairs R xs h.1)
    where
      by : (b : Bool) → Pairs R (nodes_of (ops xs)) → Pairs R (nodes_of (cond b (x ∷ ops xs) (ops xs)))
      by true rest = (λ y k. h.0 y (nodes-ops xs y k).0, rest)
      by false rest = rest

-- ---- what is done at a node

module _ {C S B : Type 0} (post : OperationRelation C S B) where
  -- at an operation there is a call, and what stands at any other node is passed by
  at-operation : (c : C) (s : S) (n : IRNode) (a : ControlFlow B WalkContinue) (c' : C) (s' : S) →
      is_operation n ≡ true → AtEachNode post c s n a c' s' → AtOperations post c s n a c' s'
  at-operation c s (Operation p) a c' s' e h = h
  at-operation c s (BasicBlock p) a c' s' e h = absurd (false≢true e)
  at-operation c s (Region p) a c' s' e h = absurd (false≢true e)

  passed-by : (c : C) (s : S) (n : IRNode) (a : ControlFlow B WalkContinue) (c' : C) (s' : S) →
      is_operation n ≡ false → AtEachNode post c s n a c' s' → (a ≡ Continue Advance) × (c' ≡ c) × (s' ≡ s)
  passed-by c s (Operation p) a c' s' e h = absurd (true≢false e)
  passed-by c s (BasicBlock p) a c' s' e h = h
  passed-by c s (Region p) a c' s' e h = h

module _ {C S B : Type 0} (look : C → Shape) (post : OperationRelation C S B) (r : IRNode) where
  abbrev visit : Relation C S B
  visit = IsCallUnder look r (AtEachNode post)

  abbrev called : Relation C S B
  called = IsCallUnder look r (AtOperations post)

  -- the calls at operations go from the entry to the exit
  pub ops-chain : (c : C) (s : S) (xs : List (Call C S B)) (c' : C) (s' : S) → Chain visit c s xs c' s' →
      Chain called c s (operation_calls xs) c' s'
  ops-chain c s [] c' s' h = h
  ops-chain c s (x ∷ xs) c' s' h = by (is_operation x.node) refl (ops-chain x.after x.left xs c' s' h.3)
    where
      by : (b : Bool) → is_operation x.node ≡ b → Chain called x.after x.left (operation_calls xs) c' s' →
          Chain called c s (cond b (x ∷ operation_calls xs) (operation_calls xs)) c' s'
      by true e rest =
          let made = at-operation post x.before x.state x.node x.answer x.after x.left e h.2.made in
          (h.0, h.1, record { stands = h.2.stands; leaves = h.2.leaves; made = made }, rest)
      by false e rest =
          let same = passed-by post x.before x.state x.node x.answer x.after x.left e h.2.made in
          subst (λ z. Chain called z s (operation_calls xs) c' s') (same.1 ∙ h.0)
          (subst (λ z. Chain called x.after z (operation_calls xs) c' s') (same.2 ∙ h.1) rest)

  module _ (c : C) (s : S) (xs : List (Call C S B)) (c' : C) (s' : S) (chain : Chain visit c s xs c' s') where
    -- what answers otherwise than to go on is an operation
    is-op : (x : Call C S B) → Has xs x → (x.answer ≡ Continue Advance → ⊥) → is_operation x.node ≡ true
    is-op x h stops = elim (cases_Bool (is_operation x.node)) [
      | inl e ↦ e
      | inr e ↦ absurd (stops (passed-by post x.before x.state x.node x.answer x.after x.left e
          (chain-each visit c s xs c' s' chain x h).made).0)
    ]

    module _ (w : WalkConfig) (t : Tree) where
      shut-fewer : (n : IRNode) → IsShutOut w t r xs n → IsShutOut w t r (operation_calls xs) n
      shut-fewer n h =
          let x = h.skipped.0 in
          let op = is-op x h.skipped.1 (λ e. let d : ⊥ = cc (h.skipped.3, e) in d) in
          record {
            ancestor = h.ancestor;
            under_root = h.under_root;
            above = h.above;
            order = h.order;
            skipped = (x, Has-kept (λ y. is_operation y.node) xs x h.skipped.1 op, h.skipped.2, h.skipped.3);
          }

      shut-more : (n : IRNode) → IsShutOut w t r (operation_calls xs) n → IsShutOut w t r xs n
      shut-more n h =
          let x = h.skipped.0 in
          record {
            ancestor = h.ancestor;
            under_root = h.under_root;
            above = h.above;
            order = h.order;
            skipped = (x, kept-Has (λ y. is_operation y.node) xs x h.skipped.1, h.skipped.2, h.skipped.3);
          }

      due-fewer : (n : IRNode) → IsDue w t r xs n → IsDue w t r (operation_calls xs) n
      due-fewer n h = (h.0, λ k. h.1 (shut-more n k))

      due-more : (n : IRNode) → IsDue w t r (operation_calls xs) n → IsDue w t r xs n
      due-more n h = (h.0, λ k. h.1 (shut-fewer n k))

      pub ops-in-order : InOrder w t r xs → InOrder w t r (operation_calls xs)
      ops-in-order h = record {
        one_place = h.one_place;
        under_root = λ n k. h.under_root n (nodes-ops xs n k).0;
        increasing = ops-Pairs (NodeBefore w t r) xs h.increasing;
      }

      -- exactly the due operations were called that are not after the last node that the walk came to
      pub ops-up-to : CallsUpToLast w t r (IsDue w t r) xs xs →
          CallsUpToLast w t r (IsOperationDue w t r) (operation_calls xs) xs
      ops-up-to up front end e n =
          let here = up front end e n in (
            λ h. (let m = nodes-ops xs n h in let d = here.0 m.0 in ((due-fewer n d.0, m.1), d.1)),
            λ d. ops-nodes xs n (here.1 (due-more n d.0.0, d.1)) d.0.1,
          )

      abbrev up-to : Call C S B → IRNode → Type 0
      up-to end n = IsDueUpTo w t r (IsOperationDue w t r) (operation_calls xs) end.node n

      -- the last of the calls at operations is the last of all, if this is one
      ops-up-to-last : (end : Call C S B) (front : List (Call C S B)) → xs ≡ front ++ end ∷ [] →
          is_operation end.node ≡ true → CallsUpToLast w t r (IsOperationDue w t r) (operation_calls xs) xs →
          CallsUpToLast w t r (IsOperationDue w t r) (operation_calls xs) (operation_calls xs)
      ops-up-to-last end front e op up front' end' g =
          let split = ap operation_calls e ∙ last-kept (λ y. is_operation y.node) front end op in
          let same = last-same (operation_calls front) front' end end' (sym split ∙ g) in
          subst (λ z. (n : IRNode) → (Has (nodes_of (operation_calls xs)) n → up-to z n) ×
          (up-to z n → Has (nodes_of (operation_calls xs)) n)) same (up front end e)

      pub ops-answers : (a : ControlFlow B WalkContinue) → Answers w t r xs a →
          AnswersBy w t r (IsOperationDue w t r) (operation_calls xs) a
      ops-answers (Continue k) h = (
        h.0,
        ops-NoBreak xs h.1,
        λ n. (
          λ i. (let m = nodes-ops xs n i in (due-fewer n ((h.2 n).0 m.0), m.1)),
          λ d. ops-nodes xs n ((h.2 n).1 (due-more n d.0)) d.1,
        ),
      )
      ops-answers (Break b) h =
          let front = h.0.0 in
          let end = h.0.1 in
          let last = subst (λ z. Has z end) (sym h.0.2) (ends front end) in
          let op = is-op end last (λ e. let d : ⊥ = cc (h.0.3, e) in d) in
          let split = ap operation_calls h.0.2 ∙ last-kept (λ y. is_operation y.node) front end op in (
            (operation_calls front, end, split, h.0.3, ops-NoBreak front h.0.4),
            ops-up-to-last end front h.0.2 op (ops-up-to h.1),
          )
        where
          ends : (front : List (Call C S B)) (end : Call C S B) → Has (front ++ end ∷ []) end
          ends front end = Has-mid front [] end

      -- the calls at operations are a walk of the operations
      pub walked_operations : (a : ControlFlow B WalkContinue) → IsWalk w t r xs a →
          IsWalkOf w t r (IsOperationDue w t r) (operation_calls xs) a
      walked_operations a h = record { in_order = ops-in-order h.in_order; answers = ops-answers a h.answers }

      -- and of a walk with a limit those at the operations, up to the last node that it came to
      pub operations_within : (limit : ℕ) (a : Result (ControlFlow B WalkContinue) CallLimit) →
          IsWalkWithin w t r limit xs a → AreOperationsCalled w t r xs (operation_calls xs) a
      operations_within limit (Ok a) h = walked_operations a (record { in_order = h.in_order; answers = h.answers })
      operations_within limit (Err x) h =
          (ops-in-order h.in_order, ops-NoBreak xs h.answers.1, ops-up-to h.answers.2)
