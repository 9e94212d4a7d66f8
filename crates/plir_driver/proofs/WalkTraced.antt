-- What a walk puts into a trace, where each call at a node puts its line.
use Rattle.std.proofs.Common.{◌≡◌, ◌≢◌, ℕ, List, [], ◌∷◌, ◌++◌, refl, sym, ap, subst, ◌∙◌, string_bytes}
use Rattle.std.proofs.lemmas.List.{append_assoc, append-nil}
use Rattle.std.specs.declared.ops.ControlFlow.{ControlFlow}
use Rattle.std.specs.declared.ops.ControlFlow.TheVariants.{Continue, Break}
use Rattle.plir_core.specs.declared.ptr.Ptr.{Ptr}
use Rattle.plir_core.specs.declared.ptr.Operation.{Operation as OperationKind}
use Rattle.plir_core.specs.declared.ptr.IRNode.{IRNode}
use Rattle.plir_core.specs.declared.ptr.IRNode.TheVariants.{Operation}
use Rattle.plir_core.specs.ContextView.{ContextView}
use Rattle.plir_core.specs.Forest.{look}
use Rattle.plir_walk.specs.declared.config.WalkConfig.{WalkConfig}
use Rattle.plir_walk.specs.declared.interruptible.WalkContinue.{WalkContinue}
use Rattle.plir_walk.specs.declared.interruptible.WalkContinue.TheVariants.{Advance, Skip}
use Rattle.plir_walk.specs.Calls.{Call, Relation, Chain, nodes_of, NoBreak}
use Rattle.plir_walk.specs.CallLaws.{chain-each}
use Rattle.plir_walk.specs.Walk.{Answers}
use Rattle.plir_walk.specs.Walked.{IsCallUnder, WalkedOver}
use Rattle.plir_driver.specs.declared.tracing.Trace.{Trace}
use Rattle.plir_driver.specs.Traces.{AreCallsPut, IsCallPut, call_line, call_lines, next_call}

-- `post` says what a call of the walk does.
module _ {K A T : Type 0} (own : K → List ℕ) (s : ContextView K A T) {B : Type 0} (config : WalkConfig)
    (root : Ptr OperationKind) (post : Relation (ContextView K A T) Trace B)
    (each : (c : ContextView K A T) (u : Trace) (n : IRNode) (a : ControlFlow B WalkContinue) (c' : ContextView K A T)
    (u' : Trace) → post c u n a c' u' → (c' ≡ c) × IsCallPut own c u n a u') where
  abbrev OneCall : Type 0
  OneCall = Call (ContextView K A T) Trace B

  abbrev call : Relation (ContextView K A T) Trace B
  call = IsCallUnder look (Operation root) post

  advanced : (c : ContextView K A T) (t : Trace) (n : IRNode) (a : ControlFlow B WalkContinue) (t' : Trace) →
      IsCallPut own c t n a t' → ((b : B) → a ≢ Break b) → (t'.calls ≡ next_call t.calls)
      × (string_bytes t'.text ≡ string_bytes t.text ++ call_line own c (next_call t.calls) n)
  advanced c t n (Continue Advance) t' h k = h
  advanced c t n (Continue Skip) t' h k = absurd h
  advanced c t n (Break b) t' h k = absurd (k b refl)

  no-skip : (c : ContextView K A T) (u : Trace) (n : IRNode) (a : ControlFlow B WalkContinue) (c' : ContextView K A T)
      (u' : Trace) → post c u n a c' u' → a ≡ Continue Skip → ⊥
  no-skip c u n a c' u' h e = subst (λ z. IsCallPut own c u n z u') e (each c u n a c' u' h).1

  all-put : (calls : List OneCall) (c : ContextView K A T) (u : Trace) (c' : ContextView K A T) (u' : Trace) → c ≡ s →
      Chain call c u calls c' u' → NoBreak calls →
      string_bytes u'.text ≡ string_bytes u.text ++ call_lines own s u.calls (nodes_of calls)
  all-put [] c u c' u' e h k = ap (λ z. string_bytes z.text) h.1 ∙ sym (append-nil (string_bytes u.text))
  all-put (y ∷ ys) c u c' u' e h k =
      let f = each y.before y.state y.node y.answer y.after y.left h.2.made in
      let d = advanced y.before y.state y.node y.answer y.left f.1 k.0 in
      let rest = all-put ys y.after y.left c' u' (f.0 ∙ h.0 ∙ e) h.3 k.1 in
      let k' = next_call u.calls in
      let count = d.0 ∙ ap (λ z. next_call z.calls) h.1 in
      let put = d.1 ∙ ap (λ z. string_bytes z.text ++ call_line own y.before (next_call z.calls) y.node) h.1
      ∙ ap (λ z. string_bytes u.text ++ call_line own z k' y.node) (h.0 ∙ e) in
      rest
      ∙ ap (λ z. z ++ call_lines own s y.left.calls (nodes_of ys)) put
      ∙ ap (λ j. (string_bytes u.text ++ call_line own s k' y.node) ++ call_lines own s j (nodes_of ys)) count
      ∙ append_assoc (string_bytes u.text) (call_line own s k' y.node) (call_lines own s k' (nodes_of ys))

  -- a walk that went to its end has put the lines of its calls, at exactly the nodes at or below the root, in order
  pub walked-calls : (answer : ControlFlow B WalkContinue) (k : WalkContinue) → answer ≡ Continue k → (u u' : Trace) →
      WalkedOver look config post s u (Operation root) answer u' → AreCallsPut own s config root u u'
  walked-calls answer k is u u' walked =
      let answers = subst (λ z. Answers config (look s).children (Operation root) walked.calls z) is
      walked.walk.answers in (
        nodes_of walked.calls,
        record {
          only_nodes = λ n h. ((answers.2 n).0 h).0;
          all_nodes = λ n under. (answers.2 n).1 (
            under,
            λ shut.
                (let y = shut.skipped in
                no-skip y.0.before y.0.state y.0.node y.0.answer y.0.after y.0.left
                (chain-each call s u walked.calls s u' walked.chain y.0 y.1).made y.3),
          );
          in_order = walked.walk.in_order.increasing;
        },
        all-put walked.calls s u s u' refl walked.chain answers.1,
      )

-- what is said of equal contexts and traces
pub call-put-again : {K A T B : Type 0} (own : K → List ℕ) {c d : ContextView K A T} {t u t' u' : Trace} (n : IRNode)
    (a : ControlFlow B WalkContinue) → c ≡ d → t ≡ u → t' ≡ u' → IsCallPut own c t n a t' → IsCallPut own d u n a u'
call-put-again own {c} {d} {t} {u} {t'} {u'} n a context before after h =
    subst (λ z. IsCallPut own d u n a z) after
    (subst (λ z. IsCallPut own d z n a t') before (subst (λ z. IsCallPut own z t n a t') context h))
