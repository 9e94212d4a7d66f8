-- What the calls of the walk that looks at headers tell.
use Rattle.std.proofs.Common.{◌≡◌, Bool, true, false, List, [], ◌∷◌, ◌++◌, inl, inr, refl, sym, ap, subst, ◌∙◌}
use Rattle.std.specs.declared.ops.ControlFlow.{ControlFlow}
use Rattle.std.specs.declared.ops.ControlFlow.TheVariants.{Continue, Break}
use Rattle.plir_core.specs.declared.ptr.Ptr.{Ptr}
use Rattle.plir_core.specs.declared.ptr.Operation.{Operation as OperationKind}
use Rattle.plir_core.specs.declared.ptr.IRNode.{IRNode}
use Rattle.plir_core.specs.declared.ptr.IRNode.TheVariants.{Operation, Region, BasicBlock}
use Rattle.plir_store.specs.Members.{Has}
use Rattle.plir_core.specs.ContextView.{ContextView}
use Rattle.plir_core.specs.Forest.{look}
use Rattle.plir_walk.specs.declared.config.WalkConfig.{WalkConfig}
use Rattle.plir_walk.specs.declared.interruptible.WalkContinue.{WalkContinue}
use Rattle.plir_walk.specs.declared.interruptible.WalkContinue.TheVariants.{Skip}
use Rattle.plir_walk.specs.Calls.{Call, Relation, Chain, nodes_of, NoBreak}
use Rattle.plir_walk.specs.Walked.{IsCallUnder, WalkedOver}
use Rattle.plir_print.specs.HeaderAttrs.{has_header, IsPrintable}
use Rattle.plir_print.specs.HeaderWalk.{answer_for, header_answer}

-- the calls of a list, and the nodes that were called
module _ {C S B : Type 0} where
  call-of : (xs : List (Call C S B)) (n : IRNode) → Has (nodes_of xs) n → (x : Call C S B) × Has xs x × (x.node ≡ n)
  call-of [] n h = absurd h
  call-of (x ∷ xs) n (inl e) = (x, inl refl, e)
  call-of (x ∷ xs) n (inr h) = let r = call-of xs n h in (r.0, inr r.1, r.2)

  node-called : (xs : List (Call C S B)) (x : Call C S B) → Has xs x → Has (nodes_of xs) x.node
  node-called [] x h = absurd h
  node-called (y ∷ xs) x (inl e) = inl (ap (λ z. z.node) e)
  node-called (y ∷ xs) x (inr h) = inr (node-called xs x h)

  none-breaks : (xs : List (Call C S B)) → NoBreak xs → (x : Call C S B) → Has xs x → (b : B) → x.answer ≡ Break b → ⊥
  none-breaks [] n x h b e = absurd h
  none-breaks (y ∷ xs) n x (inl g) b e = n.0 b (ap (λ z. z.answer) g ∙ e)
  none-breaks (y ∷ xs) n x (inr h) b e = none-breaks xs n.1 x h b e

  has-last : (xs : List (Call C S B)) (x : Call C S B) → Has (xs ++ x ∷ []) x
  has-last [] x = inl refl
  has-last (y ∷ xs) x = inr (has-last xs x)

never-skips : {K A T : Type 0} → (s : ContextView K A T) (n : IRNode) → header_answer s n ≡ Continue Skip → ⊥
never-skips s (Operation p) e = at (has_header s p) e
  where
    at : (b : Bool) → answer_for b ≡ Continue Skip → ⊥
    at true e = cc
    at false e = cc
never-skips s (Region r) e = cc
never-skips s (BasicBlock b) e = cc

-- where it does not break, the header is there, and it breaks only where a header is not there
goes-on : (b : Bool) → (answer_for b ≡ Break tt → ⊥) → b ≡ true
goes-on true f = refl
goes-on false f = absurd (f refl)

breaks-off : {K A T : Type 0} → (s : ContextView K A T) (n : IRNode) (u : Unit {0}) → header_answer s n ≡ Break u
    → (p : Ptr OperationKind) × (n ≡ Operation p) × (has_header s p ≡ true → ⊥)
breaks-off s (Operation p) u e = (p, refl, λ h. at (has_header s p) e h)
  where
    at : (b : Bool) → answer_for b ≡ Break u → b ≡ true → ⊥
    at true e h = cc
    at false e h = cc
breaks-off s (Region r) u e = absurd (let z : ⊥ = cc in z)
breaks-off s (BasicBlock b) u e = absurd (let z : ⊥ = cc in z)

module _ {K A T S : Type 0} (w : WalkConfig) (post : Relation (ContextView K A T) S (Unit {0}))
    (told : (c : ContextView K A T) (s : S) (n : IRNode) (a : ControlFlow (Unit {0}) WalkContinue)
    (c' : ContextView K A T) (s' : S) → post c s n a c' s' → (c' ≡ c) × (a ≡ header_answer c n))
    (c0 : ContextView K A T) (op : Ptr OperationKind) (s0 s1 : S) where
  each : (xs : List (Call (ContextView K A T) S (Unit {0}))) (c : ContextView K A T) (s : S) (c' : ContextView K A T)
      (s' : S) → c ≡ c0 → Chain (IsCallUnder look (Operation op) post) c s xs c' s'
      → (x : Call (ContextView K A T) S (Unit {0})) → Has xs x → x.answer ≡ header_answer c0 x.node
  each [] c s c' s' e h x has = absurd has
  each (y ∷ ys) c s c' s' e h x has =
      let t = told y.before y.state y.node y.answer y.after y.left h.2.made in
      let b : y.before ≡ c0 = h.0 ∙ e in
      elim has [
        | inl q ↦ subst (λ z. z.answer ≡ header_answer c0 z.node) q (t.1 ∙ ap (λ z. header_answer z y.node) b)
        | inr k ↦ each ys y.after y.left c' s' (t.0 ∙ b) h.3 x k
      ]

  -- a walk that went to its end has seen all headers
  at-end : (k : WalkContinue) → WalkedOver look w post c0 s0 (Operation op) (Continue k) s1
      → IsPrintable c0 (Operation op)
  at-end k h p under =
      let called : Has (nodes_of h.calls) (Operation p) =
      (h.walk.answers.2 (Operation p)).1 (
        under,
        λ out. never-skips c0 out.skipped.0.node
            (sym (each h.calls c0 s0 c0 s1 refl h.chain out.skipped.0 out.skipped.1) ∙ out.skipped.3),
      ) in
      let x = call-of h.calls (Operation p) called in
      let answer : x.0.answer ≡ header_answer c0 (Operation p) =
      each h.calls c0 s0 c0 s1 refl h.chain x.0 x.1 ∙ ap (header_answer c0) x.2 in
      goes-on (has_header c0 p) (λ e. none-breaks h.calls h.walk.answers.1 x.0 x.1 tt (answer ∙ e))

  -- one that was broken off has seen an operation without
  at-break : (u : Unit {0}) → WalkedOver look w post c0 s0 (Operation op) (Break u) s1 → IsPrintable c0 (Operation op)
      → ⊥
  at-break u h printable =
      let last = h.walk.answers.0 in
      let has : Has h.calls last.1 = subst (λ z. Has z last.1) (sym last.2) (has-last last.0 last.1) in
      let off = breaks-off c0 last.1.node u (sym (each h.calls c0 s0 c0 s1 refl h.chain last.1 has) ∙ last.3) in
      off.2 (printable off.0 (h.walk.in_order.under_root (Operation off.0)
      (subst (Has (nodes_of h.calls)) off.1 (node-called h.calls last.1 has))))

  pub went-on : (a : ControlFlow (Unit {0}) WalkContinue) (k : WalkContinue) → a ≡ Continue k
      → WalkedOver look w post c0 s0 (Operation op) a s1 → IsPrintable c0 (Operation op)
  went-on a k e h = at-end k (subst (λ z. WalkedOver look w post c0 s0 (Operation op) z s1) e h)

  pub broke-off : (a : ControlFlow (Unit {0}) WalkContinue) (u : Unit {0}) → a ≡ Break u
      → WalkedOver look w post c0 s0 (Operation op) a s1 → IsPrintable c0 (Operation op) → ⊥
  broke-off a u e h = at-break u (subst (λ z. WalkedOver look w post c0 s0 (Operation op) z s1) e h)
