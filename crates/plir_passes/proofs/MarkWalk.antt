-- A walk that marks the operations under its root.
use Rattle.std.proofs.Common.{◌≡◌, ◌≢◌, List, [], ◌∷◌, inl, inr, refl, sym, ap, subst, ◌∙◌}
use Rattle.std.specs.declared.ops.ControlFlow.{ControlFlow}
use Rattle.std.specs.declared.ops.ControlFlow.TheVariants.{Continue, Break}
use Rattle.plir_store.specs.Members.{Has}
use Rattle.plir_core.specs.declared.ptr.Ptr.{Ptr}
use Rattle.plir_core.specs.declared.ptr.Operation.{Operation as OperationKind}
use Rattle.plir_core.specs.declared.ptr.IRNode.{IRNode}
use Rattle.plir_core.specs.declared.ptr.IRNode.TheVariants.{Operation, Region, BasicBlock}
use Rattle.plir_core.specs.ContextView.{ContextView, IsAncestor}
use Rattle.plir_core.specs.Forest.{look, IsForest}
use Rattle.plir_walk.specs.declared.config.TheConstants.{WALKCONFIG_PREORDER_FORWARD as pre_forward}
use Rattle.plir_walk.specs.declared.interruptible.WalkContinue.{WalkContinue}
use Rattle.plir_walk.specs.declared.interruptible.WalkContinue.TheVariants.{Advance, Skip}
use Rattle.plir_walk.specs.Calls.{Call, Relation, Chain, nodes_of, NoBreak}
use Rattle.plir_walk.specs.OperationWalks.{OperationRelation, AtOperations, IsOperationDue, WalkedOperations}
use Rattle.plir_walk.specs.Walk.{AnswersBy}
use Rattle.plir_walk.specs.TreeLaws.{reached-under, under-reached}
use Rattle.plir_walk.specs.Walked.{IsCallUnder}
use Rattle.plir_walk.specs.NodeLaws.{same-op}
use Rattle.plir_passes.specs.declared.marks.Marks.{Marks}
use Rattle.plir_passes.specs.Marked.{IsGrown, IsMarkedAt}
use Rattle.plir_passes.proofs.Marking.{grown-as, grown-both, grown-none}

module _ {K A T : Type 0} (s : ContextView K A T) {B : Type 0} (root : Ptr OperationKind)
    (post : OperationRelation (ContextView K A T) Marks B)
    (each : (d : ContextView K A T) (u : Marks) (p : Ptr OperationKind) (a : ControlFlow B WalkContinue)
    (d' : ContextView K A T) (u' : Marks) → post d u p a d' u' →
    (d' ≡ d) × IsMarkedAt u p a u') where
  abbrev OneCall : Type 0
  OneCall = Call (ContextView K A T) Marks B

  abbrev call : Relation (ContextView K A T) Marks B
  call = IsCallUnder look (Operation root) (AtOperations post)

  -- what a call is
  record IsMade (x : OneCall) : Type 0 where
    pub op : Ptr OperationKind
    pub node : x.node ≡ Operation op
    pub stays : x.after ≡ x.before
    pub made : IsMarkedAt x.state op x.answer x.left

  made-at : (x : OneCall) (n : IRNode) → x.node ≡ n → x.before ≡ s →
      AtOperations post x.before x.state n x.answer x.after x.left → IsMade x
  made-at x (Operation p) e f h =
      let k = each x.before x.state p x.answer x.after x.left h in
      record { op = p; node = e; stays = k.0; made = k.1 }
  made-at x (Region p) e f h = absurd h
  made-at x (BasicBlock p) e f h = absurd h

  -- an operation was called
  abbrev IsCalled : List OneCall → Ptr OperationKind → Type 0
  IsCalled calls q = Has (nodes_of calls) (Operation q)

  goes-on : (u : Marks) (p : Ptr OperationKind) (a : ControlFlow B WalkContinue) (u' : Marks) →
      ((b : B) → a ≢ Break b) → IsMarkedAt u p a u' →
      (a ≡ Continue Advance) × IsGrown (λ q. q ≡ p) u u'
  goes-on u p (Continue Advance) u' k h = (refl, h)
  goes-on u p (Continue Skip) u' k h = absurd h
  goes-on u p (Break b) u' k h = absurd (k b refl)

  all-marked : (calls : List OneCall) (d : ContextView K A T) (u : Marks) (d' : ContextView K A T) (u' : Marks) →
      d ≡ s → Chain call d u calls d' u' → NoBreak calls →
      ((x : OneCall) → Has calls x → x.answer ≡ Continue Skip → ⊥) × IsGrown (IsCalled calls) u u'
  all-marked [] d u d' u' e h k = (λ x i. absurd i, grown-none u u' h.1 (λ q c. c))
  all-marked (y ∷ ys) d u d' u' e h k =
      let m = made-at y y.node refl (h.0 ∙ e) h.2.made in
      let first = goes-on y.state m.op y.answer y.left k.0 m.made in
      let rest = all-marked ys y.after y.left d' u' (m.stays ∙ h.0 ∙ e) h.3 k.1 in (
        λ x i f. elim i [
          | inl same ↦ (let z : ⊥ = cc (first.0, ap (λ (c : OneCall). c.answer) same, f) in z)
          | inr more ↦ rest.0 x more f
        ],
        grown-both u y.left u' (λ q c. elim c [
          | inl same ↦ inl (same-op q m.op (sym same ∙ m.node))
          | inr more ↦ inr more
        ]) (λ q c. inl (m.node ∙ ap Operation (sym c))) (λ q c. inr c)
            (subst (λ z. IsGrown (λ q. q ≡ m.op) z y.left) h.1 first.1) rest.1,
      )

  -- a walk that went to its end has marked what stands at or below the root
  pub walked-marked : IsForest (look s) → (answer : ControlFlow B WalkContinue) (k : WalkContinue) → answer ≡ Continue k
      → (u u' : Marks) → WalkedOperations look pre_forward post s u (Operation root) answer u' →
      IsGrown (λ q. IsAncestor s (Operation root) (Operation q)) u u'
  walked-marked forest answer k is u u' walked =
      let t = (look s).children in
      let answers = subst (λ z. AnswersBy pre_forward t (Operation root) (IsOperationDue pre_forward t (Operation root))
      walked.calls z) is walked.walk.answers in
      let all = all-marked walked.calls s u s u' refl walked.chain answers.1 in
      grown-as u u'
      (λ q c. under-reached (look s) forest (Operation q) (Operation root) ((answers.2 (Operation q)).0 c).0.0)
      (λ q c. (answers.2 (Operation q)).1 (
        (
          reached-under (look s) forest c.0 (Operation q) (Operation root) c.1,
          λ out. all.0 out.skipped.0 out.skipped.1 out.skipped.3,
        ),
        refl,
      )) all.1

-- what is said of equal marks
pub marked-again : {B : Type 0} {u v u' v' : Marks} (p : Ptr OperationKind) (a : ControlFlow B WalkContinue) → u ≡ v →
    u' ≡ v' → IsMarkedAt u p a u' → IsMarkedAt v p a v'
marked-again {B} {u} {v} {u'} {v'} p a before after h =
    subst (λ z. IsMarkedAt v p a z) after (subst (λ z. IsMarkedAt z p a u') before h)
