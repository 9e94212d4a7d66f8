-- The calls at operations, among those of a walk that passes operations on.
use Rattle.std.proofs.Common.{◌≡◌, Bool, true, false, List, [], ◌∷◌, ◌++◌, inl, inr, refl, sym, ap, subst, ◌∙◌}
use Rattle.std.specs.Prelude.{◌⊎◌}
use Rattle.std.specs.declared.ops.ControlFlow.{ControlFlow}
use Rattle.std.specs.declared.ops.ControlFlow.TheVariants.{Continue, Break}
use Rattle.plir_core.specs.declared.ptr.Ptr.{Ptr}
use Rattle.plir_core.specs.declared.ptr.Operation.{Operation as OperationKind}
use Rattle.plir_core.specs.declared.ptr.IRNode.{IRNode}
use Rattle.plir_core.specs.declared.ptr.IRNode.TheVariants.{Operation, Region, BasicBlock}
use Rattle.plir_core.specs.Forest.{Shape, IsForest}
use Rattle.plir_walk.specs.Lawful.{StandsUnder}
use Rattle.plir_store.specs.Members.{Has}
use Rattle.plir_walk.specs.declared.interruptible.WalkContinue.{WalkContinue}
use Rattle.plir_walk.specs.declared.interruptible.WalkContinue.TheVariants.{Advance, Skip}
use Rattle.plir_walk.specs.Lists.{Pairs}
use Rattle.plir_walk.specs.Calls.{Call, Relation, Chain, nodes_of, NoBreak}
use Rattle.plir_walk.specs.ShutOut.{IsSkipped}
use Rattle.plir_walk.specs.Walked.{IsCallUnder}
use Rattle.plir_builtin.specs.TableWalks.{OpRelation, AtOps, PassesOn, not_entering}

-- answers
module _ {B : Type 0} where
  pub advance_not_skip : (a : ControlFlow B WalkContinue) → a ≡ Continue Advance → a ≡ Continue Skip → ⊥
  advance_not_skip a e f = cc

  pub advance_not_break : (a : ControlFlow B WalkContinue) (b : B) → a ≡ Continue Advance → a ≡ Break b → ⊥
  advance_not_break a b e f = cc

  skip_not_break : (b : B) → Continue Skip ≡ Break b → ⊥
  skip_not_break b e = cc

  still_skips : (x : Bool) → not_entering {B = B} x (Continue Skip) ≡ Continue Skip
  still_skips true = refl
  still_skips false = refl

  still_breaks : (x : Bool) (b : B) → not_entering x (Break b) ≡ Break b
  still_breaks true b = refl
  still_breaks false b = refl

  why_skips : (x : Bool) (a : ControlFlow B WalkContinue) → not_entering x a ≡ Continue Skip
      → (x ≡ true) ⊎ (a ≡ Continue Skip)
  why_skips true a e = inl refl
  why_skips false a e = inr e

  why_breaks : (x : Bool) (a : ControlFlow B WalkContinue) (b : B) → not_entering x a ≡ Break b → a ≡ Break b
  why_breaks false a b e = e
  why_breaks true (Break c) b e = e
  why_breaks true (Continue k) b e = absurd (skip_not_break b e)

  at_table : (x : Bool) (a : ControlFlow B WalkContinue) → x ≡ true
      → (not_entering x a ≡ Continue Skip) ⊎ ((b : B) × (not_entering x a ≡ Break b))
  at_table true (Continue k) e = inl refl
  at_table true (Break b) e = inr (b, refl)
  at_table false a e = absurd (let h : ⊥ = cc e in h)

not_region : {r : _} {p : Ptr OperationKind} → Region r ≡ Operation p → ⊥
not_region e = cc

not_block : {r : _} {p : Ptr OperationKind} → BasicBlock r ≡ Operation p → ⊥
not_block e = cc

not_empty : {A : Type 0} (x : A) (xs : List A) → x ∷ xs ≡ [] → ⊥
not_empty x xs e = cc

pub one_op : (p q : Ptr OperationKind) → Operation p ≡ Operation q → p ≡ q
one_op p q e = cc

module _ {C S B : Type 0} where
  -- a call that is passed by
  abbrev pub IsPassedBy : Call C S B → Type 0
  IsPassedBy x = ((p : Ptr OperationKind) → x.node ≡ Operation p → ⊥) × (x.answer ≡ Continue Advance)

  pub call-of : (xs : List (Call C S B)) (n : IRNode) → Has (nodes_of xs) n → (x : Call C S B) × Has xs x × (x.node ≡ n)
  call-of [] n h = absurd h
  call-of (x ∷ xs) n (inl e) = (x, inl refl, e)
  call-of (x ∷ xs) n (inr h) = let r = call-of xs n h in (r.0, inr r.1, r.2)

  pub node-called : (xs : List (Call C S B)) (x : Call C S B) → Has xs x → Has (nodes_of xs) x.node
  node-called [] x h = absurd h
  node-called (y ∷ xs) x (inl e) = inl (ap (λ z. z.node) e)
  node-called (y ∷ xs) x (inr h) = inr (node-called xs x h)

  pub none-breaks : (xs : List (Call C S B)) → NoBreak xs → (x : Call C S B) → Has xs x → (b : B) → x.answer ≡ Break b
      → ⊥
  none-breaks [] n x h b e = absurd h
  none-breaks (y ∷ xs) n x (inl g) b e = n.0 b (ap (λ z. z.answer) g ∙ e)
  none-breaks (y ∷ xs) n x (inr h) b e = none-breaks xs n.1 x h b e

  pub last-breaks : (xs : List (Call C S B)) (end : Call C S B) → NoBreak xs → (x : Call C S B) → Has (xs ++ end ∷ []) x
      → (b : B) → x.answer ≡ Break b → end ≡ x
  last-breaks [] end n x (inl g) b e = g
  last-breaks [] end n x (inr h) b e = absurd h
  last-breaks (y ∷ xs) end n x (inl g) b e = absurd (n.0 b (ap (λ z. z.answer) g ∙ e))
  last-breaks (y ∷ xs) end n x (inr h) b e = last-breaks xs end n.1 x h b e

module _ {C S B : Type 0} (is_table : Ptr OperationKind → Bool) where
  -- a call of the walk, and the call that it made
  pub record IsPassedOn (x h : Call C S B) : Type 0 where
    pub op : Ptr OperationKind
    pub at_x : x.node ≡ Operation op
    pub at_h : h.node ≡ Operation op
    pub answer : x.answer ≡ not_entering (is_table op) h.answer

  -- the calls of a walk, and those that they made
  abbrev pub Kept : List (Call C S B) → List (Call C S B) → Type 0
  Kept [] hs = hs ≡ []
  Kept (x ∷ xs) [] = IsPassedBy x × Kept xs []
  Kept (x ∷ xs) (h ∷ hs) = (IsPassedBy x × Kept xs (h ∷ hs)) ⊎ (IsPassedOn x h × Kept xs hs)

  pub kept-by : (x : Call C S B) (xs hs : List (Call C S B)) → IsPassedBy x → Kept xs hs → Kept (x ∷ xs) hs
  kept-by x xs [] p k = (p, k)
  kept-by x xs (h ∷ hs) p k = inl (p, k)

  -- each call that was made is one of the walk's
  pub made-by : (xs hs : List (Call C S B)) → Kept xs hs → (h : Call C S B) → Has hs h
      → (x : Call C S B) × Has xs x × IsPassedOn x h
  made-by [] [] k h i = absurd i
  made-by [] (g ∷ hs) k h i = absurd (not_empty g hs k)
  made-by (x ∷ xs) [] k h i = absurd i
  made-by (x ∷ xs) (g ∷ hs) (inl k) h i = let r = made-by xs (g ∷ hs) k.1 h i in (r.0, inr r.1, r.2)
  made-by (x ∷ xs) (g ∷ hs) (inr k) h (inl e) = (x, inl refl, subst (λ z. IsPassedOn x z) e k.0)
  made-by (x ∷ xs) (g ∷ hs) (inr k) h (inr i) = let r = made-by xs hs k.1 h i in (r.0, inr r.1, r.2)

  -- and each call of the walk is passed by, or made one
  pub made : (xs hs : List (Call C S B)) → Kept xs hs → (x : Call C S B) → Has xs x
      → IsPassedBy x ⊎ ((h : Call C S B) × Has hs h × IsPassedOn x h)
  made [] hs k x i = absurd i
  made (y ∷ xs) [] k x (inl e) = inl (subst (λ z. IsPassedBy z) e k.0)
  made (y ∷ xs) [] k x (inr i) = made xs [] k.1 x i
  made (y ∷ xs) (g ∷ hs) (inl k) x (inl e) = inl (subst (λ z. IsPassedBy z) e k.0)
  made (y ∷ xs) (g ∷ hs) (inl k) x (inr i) = made xs (g ∷ hs) k.1 x i
  made (y ∷ xs) (g ∷ hs) (inr k) x (inl e) = inr (g, inl refl, subst (λ z. IsPassedOn z g) e k.0)
  made (y ∷ xs) (g ∷ hs) (inr k) x (inr i) =
      elim (made xs hs k.1 x i) [ inl p ↦ inl p | inr r ↦ inr (r.0, inr r.1, r.2) ]

  pub kept-has : (xs hs : List (Call C S B)) → Kept xs hs → (n : IRNode) → Has (nodes_of hs) n → Has (nodes_of xs) n
  kept-has xs hs k n i =
      let h = call-of hs n i in
      let x = made-by xs hs k h.0 h.1 in
      subst (λ z. Has (nodes_of xs) z) (x.2.at_x ∙ sym x.2.at_h ∙ h.2) (node-called xs x.0 x.1)

  pub has-kept : (xs hs : List (Call C S B)) → Kept xs hs → (p : Ptr OperationKind) → Has (nodes_of xs) (Operation p)
      → Has (nodes_of hs) (Operation p)
  has-kept xs hs k p i =
      let x = call-of xs (Operation p) i in
      elim (made xs hs k x.0 x.1) [
        | inl by ↦ absurd (by.0 p x.2)
        | inr h ↦ subst (λ z. Has (nodes_of hs) z) (h.2.at_h ∙ sym h.2.at_x ∙ x.2) (node-called hs h.0 h.1)
      ]

  pub kept-pairs : (R : IRNode → IRNode → Type 0) (xs hs : List (Call C S B)) → Kept xs hs → Pairs R (nodes_of xs)
      → Pairs R (nodes_of hs)
  kept-pairs R [] [] k ps = tt
  kept-pairs R [] (g ∷ hs) k ps = absurd (not_empty g hs k)
  kept-pairs R (x ∷ xs) [] k ps = tt
  kept-pairs R (x ∷ xs) (g ∷ hs) (inl k) ps = kept-pairs R xs (g ∷ hs) k.1 ps.1
  kept-pairs R (x ∷ xs) (g ∷ hs) (inr k) ps = (
    λ n i. subst (λ z. R z n) (k.0.at_x ∙ sym k.0.at_h) (ps.0 n (kept-has xs hs k.1 n i)),
    kept-pairs R xs hs k.1 ps.1,
  )

  -- what was skipped
  pub skipped-below : (xs hs : List (Call C S B)) → Kept xs hs → (a : IRNode) → IsSkipped hs a → IsSkipped xs a
  skipped-below xs hs k a s =
      let x = made-by xs hs k s.0 s.1 in (
        x.0,
        x.1,
        x.2.at_x ∙ sym x.2.at_h ∙ s.2,
        x.2.answer ∙ ap (λ z. not_entering (is_table x.2.op) z) s.3 ∙ still_skips (is_table x.2.op),
      )

  pub skipped-above : (xs hs : List (Call C S B)) → Kept xs hs → (a : IRNode) → IsSkipped xs a
      → ((p : Ptr OperationKind) × (a ≡ Operation p) × (is_table p ≡ true)) ⊎ IsSkipped hs a
  skipped-above xs hs k a s = elim (made xs hs k s.0 s.1) [
    | inl by ↦ absurd (advance_not_skip s.0.answer by.1 s.3)
    | inr h ↦ elim (why_skips (is_table h.2.op) h.0.answer (sym h.2.answer ∙ s.3)) [
      | inl e ↦ inl (h.2.op, sym s.2 ∙ h.2.at_x, e)
      | inr e ↦ inr (h.0, h.1, h.2.at_h ∙ sym h.2.at_x ∙ s.2, e)
    ]
  ]

  -- a call at a table answers Skip, or breaks
  pub table-called : (xs hs : List (Call C S B)) → Kept xs hs → (q : Ptr OperationKind)
      → Has (nodes_of xs) (Operation q) → is_table q ≡ true
      → IsSkipped xs (Operation q) ⊎
      ((x : Call C S B) × Has xs x × (x.node ≡ Operation q) × ((b : B) × (x.answer ≡ Break b)))
  table-called xs hs k q i t =
      let x = call-of xs (Operation q) i in
      elim (made xs hs k x.0 x.1) [
        | inl by ↦ absurd (by.0 q x.2)
        | inr
            h ↦ elim (at_table (is_table h.2.op) h.0.answer (ap is_table (one_op h.2.op q (sym h.2.at_x ∙ x.2)) ∙ t)) [
              | inl e ↦ inl (x.0, x.1, x.2, h.2.answer ∙ e)
              | inr e ↦ inr (x.0, x.1, x.2, (e.0, h.2.answer ∙ e.1))
            ]
      ]

  -- breaks
  kept-goes_on : (x h : Call C S B) → IsPassedOn x h → ((b : B) → x.answer ≡ Break b → ⊥) → (b : B) → h.answer ≡ Break b
      → ⊥
  kept-goes_on x h k n b e =
      n b (k.answer ∙ ap (λ z. not_entering (is_table k.op) z) e ∙ still_breaks (is_table k.op) b)

  pub kept-no_break : (xs hs : List (Call C S B)) → Kept xs hs → NoBreak xs → NoBreak hs
  kept-no_break [] [] k n = tt
  kept-no_break [] (g ∷ hs) k n = absurd (not_empty g hs k)
  kept-no_break (x ∷ xs) [] k n = tt
  kept-no_break (x ∷ xs) (g ∷ hs) (inl k) n = kept-no_break xs (g ∷ hs) k.1 n.1
  kept-no_break (x ∷ xs) (g ∷ hs) (inr k) n = (kept-goes_on x g k.0 n.0, kept-no_break xs hs k.1 n.1)

  pub record IsLast (hs : List (Call C S B)) (x : Call C S B) (b : B) : Type 0 where
    pub front : List (Call C S B)
    pub end : Call C S B
    pub are : hs ≡ front ++ end ∷ []
    pub node : end.node ≡ x.node
    pub broke : end.answer ≡ Break b
    pub none_before : NoBreak front

  pub kept-last : (front : List (Call C S B)) (x : Call C S B) (b : B) (hs : List (Call C S B))
      → Kept (front ++ x ∷ []) hs → x.answer ≡ Break b → NoBreak front → IsLast hs x b
  kept-last [] x b [] k e n = absurd (advance_not_break x.answer b k.0.1 e)
  kept-last [] x b (g ∷ hs) (inl k) e n = absurd (advance_not_break x.answer b k.0.1 e)
  kept-last [] x b (g ∷ hs) (inr k) e n = record {
    front = [];
    end = g;
    are = ap (λ z. g ∷ z) k.1;
    node = k.0.at_h ∙ sym k.0.at_x;
    broke = why_breaks (is_table k.0.op) g.answer b (sym k.0.answer ∙ e);
    none_before = tt;
  }
  kept-last (y ∷ front) x b [] k e n = kept-last front x b [] k.1 e n.1
  kept-last (y ∷ front) x b (g ∷ hs) (inl k) e n = kept-last front x b (g ∷ hs) k.1 e n.1
  kept-last (y ∷ front) x b (g ∷ hs) (inr k) e n =
      let r = kept-last front x b hs k.1 e n.1 in
      record {
        front = g ∷ r.front;
        end = r.end;
        are = ap (λ z. g ∷ z) r.are;
        node = r.node;
        broke = r.broke;
        none_before = (kept-goes_on y g k.0 n.0, r.none_before);
      }

-- the calls that a walk made
module _ {C S B : Type 0} (look : C → Shape) (root : IRNode) (is_table : C → Ptr OperationKind → Bool)
    (post : OpRelation C S B) (from : Relation C S B)
    (passes : (c : C) (s : S) (n : IRNode) (a : ControlFlow B WalkContinue) (c' : C) (s' : S) → from c s n a c' s'
    → (c' ≡ c) × PassesOn is_table post c s n a c' s') (c0 : C) where
  pub record IsFiltered (c : C) (s : S) (xs : List (Call C S B)) (c' : C) (s' : S) : Type 0 where
    pub calls : List (Call C S B)
    pub chain : Chain (IsCallUnder look root (AtOps post)) c s calls c' s'
    pub kept : Kept (is_table c0) xs calls

  goes-by : (c : C) (s : S) (x : Call C S B) (xs : List (Call C S B)) (c' : C) (s' : S) → IsPassedBy x → x.after ≡ c
      → x.left ≡ s → IsFiltered x.after x.left xs c' s' → IsFiltered c s (x ∷ xs) c' s'
  goes-by c s x xs c' s' p e f r = record {
    calls = r.calls;
    chain =
        subst (λ z. Chain (IsCallUnder look root (AtOps post)) c z r.calls c' s') f
        (subst (λ z. Chain (IsCallUnder look root (AtOps post)) z x.left r.calls c' s') e r.chain);
    kept = kept-by (is_table c0) x xs r.calls p r.kept;
  }

  filter-step : (c : C) (s : S) (x : Call C S B) (xs : List (Call C S B)) (c' : C) (s' : S) → c ≡ c0 → x.before ≡ c
      → x.state ≡ s → x.after ≡ x.before
      → (n : IRNode) → x.node ≡ n → StandsUnder (look x.before) root n → IsForest (look x.after)
      → PassesOn is_table post x.before x.state n x.answer x.after x.left → IsFiltered x.after x.left xs c' s'
      → IsFiltered c s (x ∷ xs) c' s'
  filter-step c s x xs c' s' e eb es ea (Operation p) en u l q r = record {
    calls =
        record {
          before = x.before;
          state = x.state;
          node = Operation p;
          answer = q.0;
          after = x.after;
          left = x.left;
        } ∷ r.calls;
    chain = (eb, es, record { stands = u; leaves = l; made = q.1 }, r.chain);
    kept =
        inr (
          record {
            op = p;
            at_x = en;
            at_h = refl;
            answer = q.2 ∙ ap (λ z. not_entering (is_table z p) q.0) (eb ∙ e);
          },
          r.kept,
        );
  }
  filter-step c s x xs c' s' e eb es ea (Region p) en u l q r =
      goes-by c s x xs c' s' ((λ o g. not_region (sym en ∙ g)), q.0) (ea ∙ eb) (q.1 ∙ es) r
  filter-step c s x xs c' s' e eb es ea (BasicBlock p) en u l q r =
      goes-by c s x xs c' s' ((λ o g. not_block (sym en ∙ g)), q.0) (ea ∙ eb) (q.1 ∙ es) r

  pub filtered : (xs : List (Call C S B)) (c : C) (s : S) (c' : C) (s' : S) → c ≡ c0
      → Chain (IsCallUnder look root from) c s xs c' s' → IsFiltered c s xs c' s'
  filtered [] c s c' s' e h = record { calls = []; chain = h; kept = refl }
  filtered (x ∷ xs) c s c' s' e h =
      let p = passes x.before x.state x.node x.answer x.after x.left h.2.made in
      filter-step c s x xs c' s' e h.0 h.1 p.0 x.node refl h.2.stands h.2.leaves p.1
      (filtered xs x.after x.left c' s' (p.0 ∙ (h.0 ∙ e)) h.3)
