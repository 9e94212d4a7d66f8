-- What the calls of a walk tell that looks for something.
use Rattle.std.proofs.Common.{◌≡◌, List, [], ◌∷◌, ◌++◌, inl, inr, refl, sym, ap, subst, ◌∙◌}
use Rattle.std.specs.declared.ops.ControlFlow.{ControlFlow}
use Rattle.std.specs.declared.ops.ControlFlow.TheVariants.{Continue, Break}
use Rattle.plir_core.specs.declared.ptr.Ptr.{Ptr}
use Rattle.plir_core.specs.declared.ptr.Operation.{Operation as OperationKind}
use Rattle.plir_core.specs.declared.ptr.IRNode.{IRNode}
use Rattle.plir_core.specs.declared.ptr.IRNode.TheVariants.{Operation, Region, BasicBlock}
use Rattle.plir_store.specs.MemberLaws.{Has-append_cases}
use Rattle.plir_store.specs.Members.{Has}
use Rattle.plir_core.specs.ContextView.{ContextView, children}
use Rattle.plir_core.specs.Forest.{look}
use Rattle.plir_walk.specs.declared.config.WalkConfig.{WalkConfig}
use Rattle.plir_walk.specs.declared.interruptible.WalkContinue.{WalkContinue}
use Rattle.plir_walk.specs.declared.interruptible.WalkContinue.TheVariants.{Advance, Skip}
use Rattle.plir_walk.specs.Calls.{Call, Relation, Chain, nodes_of, NoBreak}
use Rattle.plir_walk.specs.Tree.{IsUnder, NodeBefore}
use Rattle.plir_walk.specs.Walk.{IsDue}
use Rattle.plir_walk.specs.Walked.{IsCallUnder, WalkedOver}
use Rattle.plir_roundtrip.specs.ReadableParts.{AllReadable, IsLookAnswer, IsNodeReadable}

-- the calls of a list, and the nodes that were called
module _ {C S B : Type 0} where
  call_of : (xs : List (Call C S B)) (n : IRNode) → Has (nodes_of xs) n → (x : Call C S B) × Has xs x × (x.node ≡ n)
  call_of [] n h = absurd h
  call_of (x ∷ xs) n (inl e) = (x, inl refl, e)
  call_of (x ∷ xs) n (inr h) = let r = call_of xs n h in (r.0, inr r.1, r.2)

  node_called : (xs : List (Call C S B)) (x : Call C S B) → Has xs x → Has (nodes_of xs) x.node
  node_called [] x h = absurd h
  node_called (y ∷ xs) x (inl e) = inl (ap (λ z. z.node) e)
  node_called (y ∷ xs) x (inr h) = inr (node_called xs x h)

  none_breaks : (xs : List (Call C S B)) → NoBreak xs → (x : Call C S B) → Has xs x → (b : B) → x.answer ≡ Break b → ⊥
  none_breaks [] n x h b e = absurd h
  none_breaks (y ∷ xs) n x (inl g) b e = n.0 b (ap (λ z. z.answer) g ∙ e)
  none_breaks (y ∷ xs) n x (inr h) b e = none_breaks xs n.1 x h b e

  has_last : (xs : List (Call C S B)) (x : Call C S B) → Has (xs ++ x ∷ []) x
  has_last [] x = inl refl
  has_last (y ∷ xs) x = inr (has_last xs x)

-- what an answer of a callback that looks for something tells
module _ {B : Type 0} (Good : Type 0) (Found : B → Type 0) (a : ControlFlow B WalkContinue) where
  abbrev answer : WalkContinue → ControlFlow B WalkContinue
  answer k = Continue k

  abbrev found : B → ControlFlow B WalkContinue
  found b = Break b

  never_skips : IsLookAnswer Good Found a → a ≡ Continue Skip → ⊥
  never_skips (inl h) e = let f : answer Advance ≡ answer Skip = sym h.1 ∙ e in cc
  never_skips (inr h) e = let f : Break h.0 ≡ Continue Skip = sym h.2 ∙ e in cc

  goes_on : IsLookAnswer Good Found a → ((b : B) → a ≡ Break b → ⊥) → Good
  goes_on (inl h) other = h.0
  goes_on (inr h) other = absurd (other h.0 h.2)

  breaks_off : (b : B) → IsLookAnswer Good Found a → a ≡ Break b → Found b
  breaks_off b (inl h) e = let f : Continue Advance ≡ Break b = sym h.1 ∙ e in absurd cc
  breaks_off b (inr h) e =
      let same : found h.0 ≡ found b = sym h.2 ∙ e in
      let is : h.0 ≡ b = cc in
      subst Found is h.1

-- A walk whose callback looks for something at each node: `Good` is what holds where it is not there, and `Found` says
-- what is found at a node.
module _ {K A T S B : Type 0} (w : WalkConfig) (post : Relation (ContextView K A T) S B)
    (Good : ContextView K A T → IRNode → Type 0) (Found : ContextView K A T → IRNode → B → Type 0)
    (told : (c : ContextView K A T) (s : S) (n : IRNode) (a : ControlFlow B WalkContinue)
    (c' : ContextView K A T) (s' : S) → post c s n a c' s' → (c' ≡ c) × IsLookAnswer (Good c n) (Found c n) a)
    (c0 : ContextView K A T) (op : Ptr OperationKind) (s0 s1 : S) where
  abbrev Answered : IRNode → ControlFlow B WalkContinue → Type 0
  Answered n a = IsLookAnswer (Good c0 n) (Found c0 n) a

  each : (xs : List (Call (ContextView K A T) S B)) (c : ContextView K A T) (s : S) (c' : ContextView K A T)
      (s' : S) → c ≡ c0 → Chain (IsCallUnder look (Operation op) post) c s xs c' s'
      → (x : Call (ContextView K A T) S B) → Has xs x → Answered x.node x.answer
  each [] c s c' s' e h x has = absurd has
  each (y ∷ ys) c s c' s' e h x has =
      let t = told y.before y.state y.node y.answer y.after y.left h.2.made in
      let b : y.before ≡ c0 = h.0 ∙ e in
      elim has [
        | inl q ↦
            subst (λ z. Answered z.node z.answer) q
            (subst (λ z. IsLookAnswer (Good z y.node) (Found z y.node) y.answer) b t.1)
        | inr k ↦ each ys y.after y.left c' s' (t.0 ∙ b) h.3 x k
      ]

  -- no answer shuts a node out
  due : (calls : List (Call (ContextView K A T) S B)) → Chain (IsCallUnder look (Operation op) post) c0 s0 calls c0 s1
      → (n : IRNode) → IsUnder (children c0) (Operation op) n → IsDue w (children c0) (Operation op) calls n
  due calls chain n under = (
    under,
    λ out. let x = out.skipped.0 in
        never_skips (Good c0 x.node) (Found c0 x.node) x.answer (each calls c0 s0 c0 s1 refl chain x out.skipped.1)
        out.skipped.3,
  )

  -- a walk that went to its end has found nothing
  at_end : (k : WalkContinue) → WalkedOver look w post c0 s0 (Operation op) (Continue k) s1 → (n : IRNode)
      → IsUnder (children c0) (Operation op) n → Good c0 n
  at_end k h n under =
      let called : Has (nodes_of h.calls) n = (h.walk.answers.2 n).1 (due h.calls h.chain n under) in
      let x = call_of h.calls n called in
      let answer : Answered n x.0.answer =
      subst (λ z. Answered z x.0.answer) x.2 (each h.calls c0 s0 c0 s1 refl h.chain x.0 x.1) in
      goes_on (Good c0 n) (Found c0 n) x.0.answer answer (λ b e. none_breaks h.calls h.walk.answers.1 x.0 x.1 b e)

  -- What one finds that is broken off: it is at a node, and at no other one that does not come behind that.
  pub record IsFound (b : B) : Type 0 where
    pub node : IRNode
    pub under : IsUnder (children c0) (Operation op) node
    pub found : Found c0 node b
    pub others : (m : IRNode) → IsUnder (children c0) (Operation op) m
        → (NodeBefore w (children c0) (Operation op) node m → ⊥) → (m ≡ node → ⊥) → Good c0 m

  at_break : (b : B) → WalkedOver look w post c0 s0 (Operation op) (Break b) s1 → IsFound b
  at_break b h =
      let last = h.walk.answers.0 in
      let x = last.1 in
      let has : Has h.calls x = subst (λ z. Has z x) (sym last.2) (has_last last.0 x) in
      record {
        node = x.node;
        under = h.walk.in_order.under_root x.node (node_called h.calls x has);
        found =
            breaks_off (Good c0 x.node) (Found c0 x.node) x.answer b (each h.calls c0 s0 c0 s1 refl h.chain x has) last.3;
        others =
            λ m u before other.
            let called : Has (nodes_of h.calls) m =
            (h.walk.answers.1 last.0 x last.2 m).1 (due h.calls h.chain m u, before) in
            let y = call_of h.calls m called in
            let answer : Answered m y.0.answer =
            subst (λ z. Answered z y.0.answer) y.2 (each h.calls c0 s0 c0 s1 refl h.chain y.0 y.1) in
            goes_on (Good c0 m) (Found c0 m) y.0.answer answer (λ d e.
            elim (Has-append_cases last.0 (x ∷ []) y.0 (subst (λ z. Has z y.0) last.2 y.1)) [
              | inl f ↦ none_breaks last.0 last.4 y.0 f d e
              | inr one ↦ last_one x y.0 m other y.2 one
            ]);
      }
    where
      last_one : (x y : Call (ContextView K A T) S B) (m : IRNode) → (m ≡ x.node → ⊥) → y.node ≡ m
          → Has (x ∷ []) y → ⊥
      last_one x y m other is (inl e) = other (sym is ∙ ap (λ z. z.node) (sym e))
      last_one x y m other is (inr none) = none

  pub went_on : (a : ControlFlow B WalkContinue) (k : WalkContinue) → a ≡ Continue k
      → WalkedOver look w post c0 s0 (Operation op) a s1 → (n : IRNode) → IsUnder (children c0) (Operation op) n
      → Good c0 n
  went_on a k e h = at_end k (subst (λ z. WalkedOver look w post c0 s0 (Operation op) z s1) e h)

  pub broke_off : (a : ControlFlow B WalkContinue) (b : B) → a ≡ Break b
      → WalkedOver look w post c0 s0 (Operation op) a s1 → IsFound b
  broke_off a b e h = at_break b (subst (λ z. WalkedOver look w post c0 s0 (Operation op) z s1) e h)

-- each node under one all of which can be read
pub each_readable : {K A T : Type 0} (s : ContextView K A T) (x n : IRNode) → AllReadable s x → IsUnder (children s) x n
    → IsNodeReadable s n
each_readable s x (Operation p) all u = all.ops p u
each_readable s x (Region r) all u = tt
each_readable s x (BasicBlock b) all u = all.blocks b u
