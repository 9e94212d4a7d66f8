-- What the calls of the walk that looks for a branch tell.
use Rattle.std.proofs.Common.{◌≡◌, Bool, true, false, cond, List, [], ◌∷◌, ◌++◌, inl, inr, refl, sym, ap, subst, ◌∙◌}
use Rattle.std.specs.declared.ops.ControlFlow.{ControlFlow}
use Rattle.std.specs.declared.ops.ControlFlow.TheVariants.{Continue, Break}
use Rattle.plir_core.specs.declared.ptr.Ptr.{Ptr}
use Rattle.plir_core.specs.declared.ptr.Operation.{Operation as OperationKind}
use Rattle.plir_core.specs.declared.ptr.BasicBlock.{BasicBlock as BlockKind}
use Rattle.plir_core.specs.declared.ptr.IRNode.{IRNode}
use Rattle.plir_core.specs.declared.ptr.IRNode.TheVariants.{Operation, Region, BasicBlock}
use Rattle.plir_core.specs.SameValue.{same_ptr, ptr-exact}
use Rattle.plir_store.specs.Members.{Has}
use Rattle.plir_core.specs.ContextView.{ContextView, successors_of}
use Rattle.plir_core.specs.Forest.{IsForest, look}
use Rattle.plir_walk.specs.declared.config.WalkConfig.{WalkConfig}
use Rattle.plir_walk.specs.declared.interruptible.WalkContinue.{WalkContinue}
use Rattle.plir_walk.specs.declared.interruptible.WalkContinue.TheVariants.{Skip}
use Rattle.plir_walk.specs.Calls.{Call, Relation, Chain, nodes_of, NoBreak}
use Rattle.plir_walk.specs.TreeLaws.{reached-under, under-reached}
use Rattle.plir_walk.specs.Walked.{IsCallUnder, WalkedOver}
use Rattle.plir_inline.specs.Branches.{NoBranchBack, answer_for, branch_answer, has_block}
use Rattle.plir_inline.proofs.GivenValues.{bool_cases}

-- a list that has a block is found to, and one that is found to has it
pub has-found : (xs : List (Ptr BlockKind)) (b : Ptr BlockKind) → Has xs b → has_block xs b ≡ true
has-found [] b h = absurd h
has-found (x ∷ xs) b (inl e) = ap (λ z. cond z true (has_block xs b)) ((ptr-exact x b).1 e)
has-found (x ∷ xs) b (inr h) = elim (bool_cases (same_ptr x b)) [
  | inl e ↦ ap (λ z. cond z true (has_block xs b)) e
  | inr e ↦ ap (λ z. cond z true (has_block xs b)) e ∙ has-found xs b h
]

pub found-has : (xs : List (Ptr BlockKind)) (b : Ptr BlockKind) → has_block xs b ≡ true → Has xs b
found-has [] b e = cc
found-has (x ∷ xs) b e = elim (bool_cases (same_ptr x b)) [
  | inl s ↦ inl ((ptr-exact x b).0 s)
  | inr s ↦ inr (found-has xs b (ap (λ z. cond z true (has_block xs b)) (sym s) ∙ e))
]

-- the calls of a list, and the nodes that were called
module _ {C S B : Type 0} where
  call-of : (xs : List (Call C S B)) (n : IRNode) → Has (nodes_of xs) n → (x : Call C S B) × Has xs x × (x.node ≡ n)
  call-of [] n h = absurd h
  call-of (x ∷ xs) n (inl e) = (x, inl refl, e)
  call-of (x ∷ xs) n (inr h) = let r = call-of xs n h in (r.0, inr r.1, r.2)

  node-called : (xs : List (Call C S B)) (x : Call C S B) → Has xs x → Has (nodes_of xs) x.node
  node-called [] x h = absurd h
  node-called (y ∷ xs) x (inl e) = inl (ap (λ z. z.node) e)
  node-called (y ∷ xs) x (inr h) = inr (node-called xs x h)

  none-breaks : (xs : List (Call C S B)) → NoBreak xs → (x : Call C S B) → Has xs x → (b : B) → x.answer ≡ Break b → ⊥
  none-breaks [] n x h b e = absurd h
  none-breaks (y ∷ xs) n x (inl g) b e = n.0 b (ap (λ z. z.answer) g ∙ e)
  none-breaks (y ∷ xs) n x (inr h) b e = none-breaks xs n.1 x h b e

  has-last : (xs : List (Call C S B)) (x : Call C S B) → Has (xs ++ x ∷ []) x
  has-last [] x = inl refl
  has-last (y ∷ xs) x = inr (has-last xs x)

module _ {K A T : Type 0} (b : Ptr BlockKind) (s : ContextView K A T) where
  never-skips : (n : IRNode) → branch_answer b s n ≡ Continue Skip → ⊥
  never-skips (Operation p) e = at (has_block (successors_of s p) b) e
    where
      at : (t : Bool) → answer_for t ≡ Continue Skip → ⊥
      at true e = cc
      at false e = cc
  never-skips (Region r) e = cc
  never-skips (BasicBlock c) e = cc

  breaks-off : (n : IRNode) (u : Unit {0}) → branch_answer b s n ≡ Break u
      → (p : Ptr OperationKind) × (n ≡ Operation p) × (has_block (successors_of s p) b ≡ true)
  breaks-off (Operation p) u e = (p, refl, at (has_block (successors_of s p) b) e)
    where
      at : (t : Bool) → answer_for t ≡ Break u → t ≡ true
      at true e = refl
      at false e = cc
  breaks-off (Region r) u e = absurd (let z : ⊥ = cc in z)
  breaks-off (BasicBlock c) u e = absurd (let z : ⊥ = cc in z)

module _ {K A T S : Type 0} (w : WalkConfig) (post : Relation (ContextView K A T) S (Unit {0})) (b : Ptr BlockKind)
    (told : (c : ContextView K A T) (s : S) (n : IRNode) (a : ControlFlow (Unit {0}) WalkContinue)
    (c' : ContextView K A T) (s' : S) → post c s n a c' s' → (c' ≡ c) × (a ≡ branch_answer b c n))
    (c0 : ContextView K A T) (forest : IsForest (look c0)) (s0 s1 : S) where
  each : (xs : List (Call (ContextView K A T) S (Unit {0}))) (c : ContextView K A T) (s : S) (c' : ContextView K A T)
      (s' : S) → c ≡ c0 → Chain (IsCallUnder look (BasicBlock b) post) c s xs c' s'
      → (x : Call (ContextView K A T) S (Unit {0})) → Has xs x → x.answer ≡ branch_answer b c0 x.node
  each [] c s c' s' e h x has = absurd has
  each (y ∷ ys) c s c' s' e h x has =
      let t = told y.before y.state y.node y.answer y.after y.left h.2.made in
      let at : y.before ≡ c0 = h.0 ∙ e in
      elim has [
        | inl q ↦ subst (λ z. z.answer ≡ branch_answer b c0 z.node) q (t.1 ∙ ap (λ z. branch_answer b z y.node) at)
        | inr k ↦ each ys y.after y.left c' s' (t.0 ∙ at) h.3 x k
      ]

  -- a walk that went to its end has seen all operations
  at-end : (k : WalkContinue) → WalkedOver look w post c0 s0 (BasicBlock b) (Continue k) s1 → NoBranchBack c0 b
  at-end k h p below has =
      let called : Has (nodes_of h.calls) (Operation p) =
      (h.walk.answers.2 (Operation p)).1 (
        reached-under (look c0) forest below.0 (Operation p) (BasicBlock b) below.1,
        λ out. never-skips b c0 out.skipped.0.node
            (sym (each h.calls c0 s0 c0 s1 refl h.chain out.skipped.0 out.skipped.1) ∙ out.skipped.3),
      ) in
      let x = call-of h.calls (Operation p) called in
      none-breaks h.calls h.walk.answers.1 x.0 x.1 tt (
      each h.calls c0 s0 c0 s1 refl h.chain x.0 x.1 ∙ ap (branch_answer b c0) x.2
      ∙ ap answer_for (has-found (successors_of c0 p) b has))

  -- one that was broken off has seen an operation that branches to the block
  at-break : (u : Unit {0}) → WalkedOver look w post c0 s0 (BasicBlock b) (Break u) s1 → NoBranchBack c0 b → ⊥
  at-break u h none =
      let last = h.walk.answers.0 in
      let has : Has h.calls last.1 = subst (λ z. Has z last.1) (sym last.2) (has-last last.0 last.1) in
      let off = breaks-off b c0 last.1.node u (sym (each h.calls c0 s0 c0 s1 refl h.chain last.1 has) ∙ last.3) in
      let under = h.walk.in_order.under_root (Operation off.0)
      (subst (Has (nodes_of h.calls)) off.1 (node-called h.calls last.1 has)) in
      none off.0 (under-reached (look c0) forest (Operation off.0) (BasicBlock b) under)
      (found-has (successors_of c0 off.0) b off.2)

  pub went-on : (a : ControlFlow (Unit {0}) WalkContinue) (k : WalkContinue) → a ≡ Continue k
      → WalkedOver look w post c0 s0 (BasicBlock b) a s1 → NoBranchBack c0 b
  went-on a k e h = at-end k (subst (λ z. WalkedOver look w post c0 s0 (BasicBlock b) z s1) e h)

  pub broke-off : (a : ControlFlow (Unit {0}) WalkContinue) (u : Unit {0}) → a ≡ Break u
      → WalkedOver look w post c0 s0 (BasicBlock b) a s1 → NoBranchBack c0 b → ⊥
  broke-off a u e h = at-break u (subst (λ z. WalkedOver look w post c0 s0 (BasicBlock b) z s1) e h)
