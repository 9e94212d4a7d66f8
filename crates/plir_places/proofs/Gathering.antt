-- What a walk gathers, where each call at an operation puts it behind a list.
use Rattle.std.proofs.Common.{◌≡◌, ◌≢◌, List, [], ◌∷◌, ◌++◌, inl, inr, refl, sym, ap, subst, ◌∙◌}
use Rattle.std.proofs.lemmas.List.{append_assoc, append-nil}
use Rattle.std.specs.declared.ops.ControlFlow.{ControlFlow}
use Rattle.std.specs.declared.ops.ControlFlow.TheVariants.{Continue, Break}
use Rattle.plir_store.specs.Members.{Has}
use Rattle.plir_core.specs.declared.ptr.Ptr.{Ptr}
use Rattle.plir_core.specs.declared.ptr.Operation.{Operation as OperationKind}
use Rattle.plir_core.specs.declared.ptr.IRNode.{IRNode}
use Rattle.plir_core.specs.declared.ptr.IRNode.TheVariants.{Operation, Region, BasicBlock}
use Rattle.plir_core.specs.ContextView.{ContextView, IsLive}
use Rattle.plir_core.specs.Forest.{look}
use Rattle.plir_walk.specs.declared.config.TheConstants.{WALKCONFIG_PREORDER_FORWARD as pre_forward}
use Rattle.plir_walk.specs.declared.interruptible.WalkContinue.{WalkContinue}
use Rattle.plir_walk.specs.declared.interruptible.WalkContinue.TheVariants.{Advance, Skip}
use Rattle.plir_walk.specs.Calls.{Call, Relation, Chain, nodes_of, NoBreak}
use Rattle.plir_walk.specs.CallLaws.{chain-each}
use Rattle.plir_walk.specs.OperationWalks.{OperationRelation, AtOperations, IsOperationDue, WalkedOperations}
use Rattle.plir_walk.specs.Walk.{AnswersBy}
use Rattle.plir_walk.specs.Walked.{IsCallUnder}
use Rattle.plir_places.specs.OpsAmong.{has-op, op-has, op-pairs, ops_in}
use Rattle.plir_places.specs.TreeOps.{AreOps, IsNoted}

-- `post` says what a call of the walk does.
module _ {K A T : Type 0} (s : ContextView K A T) {S B : Type 0} (listed : S → List (Ptr OperationKind))
    (root : Ptr OperationKind) (post : OperationRelation (ContextView K A T) S B)
    (each : (c : ContextView K A T) (u : S) (p : Ptr OperationKind) (a : ControlFlow B WalkContinue)
    (c' : ContextView K A T) (u' : S) → post c u p a c' u' →
    (c' ≡ c) × IsNoted (listed u) p a (listed u')) where
  abbrev OneCall : Type 0
  OneCall = Call (ContextView K A T) S B

  abbrev call : Relation (ContextView K A T) S B
  call = IsCallUnder look (Operation root) (AtOperations post)

  -- what a call that did not break has done
  record IsDone (x : OneCall) : Type 0 where
    pub op : Ptr OperationKind
    pub node : x.node ≡ Operation op
    pub stays : x.after ≡ x.before
    pub put : listed x.left ≡ listed x.state ++ op ∷ []

  advanced : (t : List (Ptr OperationKind)) (p : Ptr OperationKind) (a : ControlFlow B WalkContinue)
      (t' : List (Ptr OperationKind)) → IsNoted t p a t' → ((b : B) → a ≢ Break b) → t' ≡ t ++ p ∷ []
  advanced t p (Continue Advance) t' h k = h
  advanced t p (Continue Skip) t' h k = absurd h
  advanced t p (Break b) t' h k = absurd (k b refl)

  done-at : (x : OneCall) (n : IRNode) → x.node ≡ n → AtOperations post x.before x.state n x.answer x.after x.left →
      ((b : B) → x.answer ≢ Break b) → IsDone x
  done-at x (Operation p) e h k =
      let f = each x.before x.state p x.answer x.after x.left h in
      record {
        op = p;
        node = e;
        stays = f.0;
        put = advanced (listed x.state) p x.answer (listed x.left) f.1 k;
      }
  done-at x (Region p) e h k = absurd h
  done-at x (BasicBlock p) e h k = absurd h

  no-skip : (c : ContextView K A T) (u : S) (n : IRNode) (a : ControlFlow B WalkContinue) (c' : ContextView K A T)
      (u' : S) → AtOperations post c u n a c' u' → a ≡ Continue Skip → ⊥
  no-skip c u (Operation p) a c' u' h e = subst (λ z. IsNoted (listed u) p z (listed u')) e (each c u p a c' u' h).1
  no-skip c u (Region p) a c' u' h e = h
  no-skip c u (BasicBlock p) a c' u' h e = h

  all-put : (calls : List OneCall) (c : ContextView K A T) (u : S) (c' : ContextView K A T) (u' : S) →
      Chain call c u calls c' u' → NoBreak calls → listed u' ≡ listed u ++ ops_in (nodes_of calls)
  all-put [] c u c' u' h k = ap listed h.1 ∙ sym (append-nil (listed u))
  all-put (y ∷ ys) c u c' u' h k =
      let d = done-at y y.node refl h.2.made k.0 in
      let put = d.put ∙ ap (λ z. listed z ++ d.op ∷ []) h.1 in
      let rest = all-put ys y.after y.left c' u' h.3 k.1 in
      rest
      ∙ ap (λ z. z ++ ops_in (nodes_of ys)) put
      ∙ append_assoc (listed u) (d.op ∷ []) (ops_in (nodes_of ys))
      ∙ ap (λ z. listed u ++ ops_in (z ∷ nodes_of ys)) (sym d.node)

  all-live : (calls : List OneCall) (c : ContextView K A T) (u : S) (c' : ContextView K A T) (u' : S) → c ≡ s →
      Chain call c u calls c' u' → NoBreak calls → (n : IRNode) → Has (nodes_of calls) n → IsLive s n
  all-live [] c u c' u' e h k n i = absurd i
  all-live (y ∷ ys) c u c' u' e h k n (inl same) =
      subst (IsLive s) same (subst (λ z. IsLive z y.node) (h.0 ∙ e) h.2.stands.live)
  all-live (y ∷ ys) c u c' u' e h k n (inr more) =
      let d = done-at y y.node refl h.2.made k.0 in
      all-live ys y.after y.left c' u' (d.stays ∙ h.0 ∙ e) h.3 k.1 n more

  -- what a walk that went to its end has put behind nothing: exactly the operations at or below the root, in order
  pub walked-ops : (answer : ControlFlow B WalkContinue) (k : WalkContinue) → answer ≡ Continue k → (u u' : S) →
      listed u ≡ [] → WalkedOperations look pre_forward post s u (Operation root) answer u' → AreOps s root (listed u')
  walked-ops answer k is u u' none walked =
      let t = (look s).children in
      let answers = subst (λ z. AnswersBy pre_forward t (Operation root) (IsOperationDue pre_forward t (Operation root))
      walked.calls z) is walked.walk.answers in
      let nodes = nodes_of walked.calls in
      let all = all-put walked.calls s u s u' walked.chain answers.1 ∙ ap (λ z. z ++ ops_in nodes) none in
      subst (AreOps s root) (sym all) (record {
        only_ops = λ p h. ((answers.2 (Operation p)).0 (op-has nodes p h)).0.0;
        all_ops = λ p under. has-op nodes p ((answers.2 (Operation p)).1 (
          (
            under,
            λ shut.
                (let y = shut.skipped in
                no-skip y.0.before y.0.state y.0.node y.0.answer y.0.after y.0.left
                (chain-each call s u walked.calls s u' walked.chain y.0 y.1).made y.3),
          ),
          refl,
        ));
        in_order = op-pairs _ nodes walked.walk.in_order.increasing;
      })

  -- all of them are live
  pub walked-live : (answer : ControlFlow B WalkContinue) (k : WalkContinue) → answer ≡ Continue k → (u u' : S) →
      listed u ≡ [] → WalkedOperations look pre_forward post s u (Operation root) answer u' →
      (p : Ptr OperationKind) → Has (listed u') p → IsLive s (Operation p)
  walked-live answer k is u u' none walked p h =
      let t = (look s).children in
      let answers = subst (λ z. AnswersBy pre_forward t (Operation root) (IsOperationDue pre_forward t (Operation root))
      walked.calls z) is walked.walk.answers in
      let nodes = nodes_of walked.calls in
      let all = all-put walked.calls s u s u' walked.chain answers.1 ∙ ap (λ z. z ++ ops_in nodes) none in
      all-live walked.calls s u s u' refl walked.chain answers.1 (Operation p)
      (op-has nodes p (subst (λ z. Has z p) all h))

-- what is said of equal lists
pub noted-again : {B : Type 0} {t u t' u' : List (Ptr OperationKind)} (p : Ptr OperationKind)
    (a : ControlFlow B WalkContinue) → t ≡ u → t' ≡ u' → IsNoted t p a t' → IsNoted u p a u'
noted-again {B} {t} {u} {t'} {u'} p a before after h =
    subst (λ z. IsNoted u p a z) after (subst (λ z. IsNoted z p a t') before h)
