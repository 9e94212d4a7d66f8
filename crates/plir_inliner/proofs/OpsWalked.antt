-- What a walk adds to a list of operations, where each call at an operation adds it, if a test keeps it.
use Rattle.std.proofs.Common.{◌≡◌, ◌≢◌, Bool, true, false, true≢false, cond, List, [], ◌∷◌, ◌++◌}
use Rattle.std.proofs.Common.{inl, inr, refl, sym, ap, subst, ◌∙◌}
use Rattle.std.proofs.lemmas.List.{append_assoc, append-nil}
use Rattle.std.specs.declared.ops.ControlFlow.{ControlFlow}
use Rattle.std.specs.declared.ops.ControlFlow.TheVariants.{Continue, Break}
use Rattle.plir_store.specs.Members.{Has}
use Rattle.plir_core.specs.declared.ptr.Ptr.{Ptr}
use Rattle.plir_core.specs.declared.ptr.Operation.{Operation as OperationKind}
use Rattle.plir_core.specs.declared.ptr.IRNode.{IRNode}
use Rattle.plir_core.specs.declared.ptr.IRNode.TheVariants.{Operation, Region, BasicBlock}
use Rattle.plir_core.specs.ContextView.{ContextView}
use Rattle.plir_core.specs.Forest.{look}
use Rattle.plir_walk.specs.declared.config.TheConstants.{WALKCONFIG_PREORDER_FORWARD as pre_forward}
use Rattle.plir_walk.specs.declared.interruptible.WalkContinue.{WalkContinue}
use Rattle.plir_walk.specs.declared.interruptible.WalkContinue.TheVariants.{Advance, Skip}
use Rattle.plir_walk.specs.Calls.{Call, Relation, Chain, nodes_of, NoBreak}
use Rattle.plir_walk.specs.CallLaws.{chain-each}
use Rattle.plir_walk.specs.Lists.{Pairs}
use Rattle.plir_walk.specs.OperationWalks.{OperationRelation, AtOperations, IsOperationDue, WalkedOperations}
use Rattle.plir_walk.specs.Walk.{AnswersBy}
use Rattle.plir_walk.specs.Walked.{IsCallUnder}
use Rattle.plir_walk.specs.NodeLaws.{same-op}
use Rattle.plir_inliner.specs.Listed.{AreListed}
use Rattle.plir_inliner.specs.Listing.{IsOpPut, kept_at}

module _ {K A T : Type 0} (keeps : ContextView K A T → Ptr OperationKind → Bool) (s : ContextView K A T) where
  abbrev is-site : Ptr OperationKind → Bool
  is-site p = keeps s p

  -- those of some nodes that the test keeps
  abbrev sites_in : List IRNode → List (Ptr OperationKind)
  sites_in [] = []
  sites_in (Operation p ∷ ns) = kept_at (keeps s) p ++ sites_in ns
  sites_in (Region p ∷ ns) = sites_in ns
  sites_in (BasicBlock p ∷ ns) = sites_in ns

  site-has : (ns : List IRNode) (p : Ptr OperationKind) → Has ns (Operation p) → is-site p ≡ true → Has (sites_in ns) p
  site-has [] p h is = absurd h
  site-has (Operation q ∷ ns) p h is = by (is-site q) refl (λ k. site-has ns p k is) h
    where
      by : (b : Bool) → is-site q ≡ b → (Has ns (Operation p) → Has (sites_in ns) p) →
          Has (Operation q ∷ ns) (Operation p) → Has (cond b (q ∷ []) [] ++ sites_in ns) p
      by false e rest (inl same) = absurd (true≢false (sym (subst (λ z. is-site z ≡ true) (sym (same-op q p same)) is)
          ∙ e))
      by false e rest (inr k) = rest k
      by true e rest (inl same) = inl (same-op q p same)
      by true e rest (inr k) = inr (rest k)
  site-has (Region q ∷ ns) p h is = elim h [
    | inl same ↦ absurd (let z : ⊥ = cc same in z)
    | inr k ↦ site-has ns p k is
  ]
  site-has (BasicBlock q ∷ ns) p h is = elim h [
    | inl same ↦ absurd (let z : ⊥ = cc same in z)
    | inr k ↦ site-has ns p k is
  ]

  has-site : (ns : List IRNode) (p : Ptr OperationKind) → Has (sites_in ns) p →
      Has ns (Operation p) × (is-site p ≡ true)
  has-site [] p h = absurd h
  has-site (Operation q ∷ ns) p h = by (is-site q) refl (λ k. has-site ns p k) h
    where
      by : (b : Bool) → is-site q ≡ b → (Has (sites_in ns) p → Has ns (Operation p) × (is-site p ≡ true)) →
          Has (cond b (q ∷ []) [] ++ sites_in ns) p → Has (Operation q ∷ ns) (Operation p) × (is-site p ≡ true)
      by false e rest k = (let m = rest k in (inr m.0, m.1))
      by true e rest (inl same) = (inl (ap Operation same), subst (λ z. is-site z ≡ true) same e)
      by true e rest (inr k) = (let m = rest k in (inr m.0, m.1))
  has-site (Region q ∷ ns) p h = (let m = has-site ns p h in (inr m.0, m.1))
  has-site (BasicBlock q ∷ ns) p h = (let m = has-site ns p h in (inr m.0, m.1))

  site-pairs : (R : IRNode → IRNode → Type 0) (ns : List IRNode) → Pairs R ns →
      Pairs (λ p q. R (Operation p) (Operation q)) (sites_in ns)
  site-pairs R [] h = tt
  site-pairs R (Operation p ∷ ns) h = by (is-site p) (site-pairs R ns h.1)
    where
      by : (b : Bool) → Pairs (λ p q. R (Operation p) (Operation q)) (sites_in ns) →
          Pairs (λ p q. R (Operation p) (Operation q)) (cond b (p ∷ []) [] ++ sites_in ns)
      by false rest = rest
      by true rest = (λ q k. h.0 (Operation q) (has-site ns q k).0, rest)
  site-pairs R (Region p ∷ ns) h = site-pairs R ns h.1
  site-pairs R (BasicBlock p ∷ ns) h = site-pairs R ns h.1

  module _ {S B : Type 0} (items : S → List (Ptr OperationKind)) (root : IRNode)
      (post : OperationRelation (ContextView K A T) S B)
      (each : (c : ContextView K A T) (u : S) (p : Ptr OperationKind) (a : ControlFlow B WalkContinue)
      (c' : ContextView K A T) (u' : S) → post c u p a c' u' →
      (c' ≡ c) × IsOpPut (keeps c) (items u) p a (items u')) where
    abbrev OneCall : Type 0
    OneCall = Call (ContextView K A T) S B

    abbrev call : Relation (ContextView K A T) S B
    call = IsCallUnder look root (AtOperations post)

    -- what a call that did not break has done
    record IsDone (x : OneCall) : Type 0 where
      pub op : Ptr OperationKind
      pub node : x.node ≡ Operation op
      pub stays : x.after ≡ x.before
      pub put : items x.left ≡ items x.state ++ kept_at (keeps x.before) op

    advanced : (c : ContextView K A T) (ps : List (Ptr OperationKind)) (p : Ptr OperationKind)
        (a : ControlFlow B WalkContinue) (ps' : List (Ptr OperationKind)) → IsOpPut (keeps c) ps p a ps' →
        ((b : B) → a ≢ Break b) → ps' ≡ ps ++ kept_at (keeps c) p
    advanced c ps p (Continue Advance) ps' h k = h
    advanced c ps p (Continue Skip) ps' h k = absurd h
    advanced c ps p (Break b) ps' h k = absurd (k b refl)

    done-at : (x : OneCall) (n : IRNode) → x.node ≡ n → AtOperations post x.before x.state n x.answer x.after x.left →
        ((b : B) → x.answer ≢ Break b) → IsDone x
    done-at x (Operation p) e h k =
        let f = each x.before x.state p x.answer x.after x.left h in
        record {
          op = p;
          node = e;
          stays = f.0;
          put = advanced x.before (items x.state) p x.answer (items x.left) f.1 k;
        }
    done-at x (Region p) e h k = absurd h
    done-at x (BasicBlock p) e h k = absurd h

    no-skip : (c : ContextView K A T) (u : S) (n : IRNode) (a : ControlFlow B WalkContinue) (c' : ContextView K A T)
        (u' : S) → AtOperations post c u n a c' u' → a ≡ Continue Skip → ⊥
    no-skip c u (Operation p) a c' u' h e = subst (λ z. IsOpPut (keeps c) (items u) p z (items u')) e
        (each c u p a c' u' h).1
    no-skip c u (Region p) a c' u' h e = h
    no-skip c u (BasicBlock p) a c' u' h e = h

    all-put : (done : List OneCall) (c : ContextView K A T) (u : S) (c' : ContextView K A T) (u' : S) → c ≡ s →
        Chain call c u done c' u' → NoBreak done → items u' ≡ items u ++ sites_in (nodes_of done)
    all-put [] c u c' u' e h k = ap items h.1 ∙ sym (append-nil (items u))
    all-put (y ∷ ys) c u c' u' e h k =
        let d = done-at y y.node refl h.2.made k.0 in
        let at = h.0 ∙ e in
        let put = d.put ∙ ap (λ z. items z ++ kept_at (keeps y.before) d.op) h.1
        ∙ ap (λ z. items u ++ kept_at (keeps z) d.op) at in
        let rest = all-put ys y.after y.left c' u' (d.stays ∙ at) h.3 k.1 in
        rest
        ∙ ap (λ z. z ++ sites_in (nodes_of ys)) put
        ∙ append_assoc (items u) (kept_at (keeps s) d.op) (sites_in (nodes_of ys))
        ∙ ap (λ z. items u ++ sites_in (z ∷ nodes_of ys)) (sym d.node)

    -- a walk that began with none and went to its end has added exactly those that the test keeps, in order
    pub walked-ops : (answer : ControlFlow B WalkContinue) (k : WalkContinue) → answer ≡ Continue k → (u u' : S) →
        items u ≡ [] → WalkedOperations look pre_forward post s u root answer u' →
        AreListed s (keeps s) root (items u')
    walked-ops answer k is u u' none walked =
        let t = (look s).children in
        let answers = subst (λ z. AnswersBy pre_forward t root (IsOperationDue pre_forward t root) walked.calls z) is
        walked.walk.answers in
        let nodes = nodes_of walked.calls in
        let put : items u' ≡ sites_in nodes = all-put walked.calls s u s u' refl walked.chain answers.1
        ∙ ap (λ z. z ++ sites_in nodes) none in
        subst (AreListed s (keeps s) root) (sym put) (record {
          only = λ p h.
              (let f = has-site nodes p h in
              (((answers.2 (Operation p)).0 f.0).0.0, f.1));
          all = λ p under kept. site-has nodes p ((answers.2 (Operation p)).1 (
            (
              under,
              λ shut.
                  (let y = shut.skipped in
                  no-skip y.0.before y.0.state y.0.node y.0.answer y.0.after y.0.left
                  (chain-each call s u walked.calls s u' walked.chain y.0 y.1).made y.3),
            ),
            refl,
          )) kept;
          in_order = site-pairs _ nodes walked.walk.in_order.increasing;
        })

-- what is said of equal contexts and lists
pub put-again :
    {K A T B : Type 0} (keeps : ContextView K A T → Ptr OperationKind → Bool) {c d : ContextView K A T}
    {ps qs ps' qs' : List (Ptr OperationKind)} (p : Ptr OperationKind) (a : ControlFlow B WalkContinue) → c ≡ d →
    ps ≡ qs → ps' ≡ qs' → IsOpPut (keeps c) ps p a ps' → IsOpPut (keeps d) qs p a qs'
put-again keeps {c} {d} {ps} {qs} {ps'} {qs'} p a context before after h =
    subst (λ z. IsOpPut (keeps d) qs p a z) after
    (subst (λ z. IsOpPut (keeps d) z p a ps') before (subst (λ z. IsOpPut (keeps z) ps p a ps') context h))
