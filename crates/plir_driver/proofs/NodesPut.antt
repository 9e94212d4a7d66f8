-- What a walk puts behind a text, where each call at a node puts what is told of it.
use Rattle.std.proofs.Common.{◌≡◌, ◌≢◌, ℕ, zero, suc, ◌+◌, ◌*◌, List, [], ◌∷◌, ◌++◌, Option, Some, None, refl, sym, ap}
use Rattle.std.proofs.Common.{subst, ◌∙◌, arith, codes}
use Rattle.std.proofs.lemmas.List.{append_assoc, append-nil, replicate-append-replicate}
use Rattle.std.specs.declared.ops.ControlFlow.{ControlFlow}
use Rattle.std.specs.declared.ops.ControlFlow.TheVariants.{Continue, Break}
use Rattle.plir_core.specs.declared.ptr.Ptr.{Ptr}
use Rattle.plir_core.specs.declared.ptr.Operation.{Operation as OperationKind}
use Rattle.plir_core.specs.declared.ptr.IRNode.{IRNode}
use Rattle.plir_core.specs.declared.ptr.IRNode.TheVariants.{Operation}
use Rattle.plir_core.specs.Above.{climb}
use Rattle.plir_core.specs.ContextView.{ContextView}
use Rattle.plir_core.specs.Forest.{look}
use Rattle.plir_walk.specs.declared.config.TheConstants.{WALKCONFIG_PREORDER_FORWARD as pre_forward}
use Rattle.plir_walk.specs.declared.interruptible.WalkContinue.{WalkContinue}
use Rattle.plir_walk.specs.declared.interruptible.WalkContinue.TheVariants.{Advance, Skip}
use Rattle.plir_walk.specs.Calls.{Call, Relation, Chain, nodes_of, NoBreak}
use Rattle.plir_walk.specs.CallLaws.{chain-each}
use Rattle.plir_walk.specs.NodeLaws.{climb-nothing}
use Rattle.plir_walk.specs.Walk.{Answers}
use Rattle.plir_walk.specs.Walked.{IsCallUnder, WalkedOver}
use Rattle.plir_driver.specs.Excerpt.{spaces}
use Rattle.plir_driver.specs.NodeLines.{AreNodesPut, AreTold, IsNodePut}

-- `P` says what may be told of a node in a context, `post` what a call of the walk does.
module _ {K A T : Type 0} (P : ContextView K A T → IRNode → List ℕ → Type 0) (s : ContextView K A T) {S B : Type 0}
    (text : S → List ℕ) (root : Ptr OperationKind) (post : Relation (ContextView K A T) S B)
    (each : (c : ContextView K A T) (u : S) (n : IRNode) (a : ControlFlow B WalkContinue) (c' : ContextView K A T)
    (u' : S) → post c u n a c' u' → (c' ≡ c) × IsNodePut (P c) (text u) n a (text u')) where
  abbrev OneCall : Type 0
  OneCall = Call (ContextView K A T) S B

  abbrev call : Relation (ContextView K A T) S B
  call = IsCallUnder look (Operation root) post

  advanced : (c : ContextView K A T) (t : List ℕ) (n : IRNode) (a : ControlFlow B WalkContinue) (t' : List ℕ) →
      IsNodePut (P c) t n a t' → ((b : B) → a ≢ Break b) → (here : List ℕ) × P c n here × (t' ≡ t ++ here)
  advanced c t n (Continue Advance) t' h k = h
  advanced c t n (Continue Skip) t' h k = absurd h
  advanced c t n (Break b) t' h k = absurd (k b refl)

  no-skip : (c : ContextView K A T) (u : S) (n : IRNode) (a : ControlFlow B WalkContinue) (c' : ContextView K A T)
      (u' : S) → post c u n a c' u' → a ≡ Continue Skip → ⊥
  no-skip c u n a c' u' h e =
      subst (λ z. IsNodePut (P c) (text u) n z (text u')) e (each c u n a c' u' h).1

  all-told : (calls : List OneCall) (c : ContextView K A T) (u : S) (c' : ContextView K A T) (u' : S) → c ≡ s →
      Chain call c u calls c' u' → NoBreak calls →
      (told : List ℕ) × AreTold (P s) (nodes_of calls) told × (text u' ≡ text u ++ told)
  all-told [] c u c' u' e h k = ([], refl, ap text h.1 ∙ sym (append-nil (text u)))
  all-told (y ∷ ys) c u c' u' e h k =
      let f = each y.before y.state y.node y.answer y.after y.left h.2.made in
      let d = advanced y.before (text y.state) y.node y.answer (text y.left) f.1 k.0 in
      let rest = all-told ys y.after y.left c' u' (f.0 ∙ h.0 ∙ e) h.3 k.1 in (
        d.0 ++ rest.0,
        (d.0, rest.0, subst (λ z. P z y.node d.0) (h.0 ∙ e) d.1, rest.1, refl),
        rest.2 ∙ ap (λ z. z ++ rest.0) (d.2 ∙ ap (λ z. text z ++ d.0) h.1) ∙ append_assoc (text u) d.0 rest.0,
      )

  -- a walk that went to its end has told of exactly the nodes at or below the root, in order
  pub walked-nodes : (answer : ControlFlow B WalkContinue) (k : WalkContinue) → answer ≡ Continue k → (u u' : S) →
      WalkedOver look pre_forward post s u (Operation root) answer u' → AreNodesPut s root (P s) (text u) (text u')
  walked-nodes answer k is u u' walked =
      let answers = subst (λ z. Answers pre_forward (look s).children (Operation root) walked.calls z) is
      walked.walk.answers in
      let put = all-told walked.calls s u s u' refl walked.chain answers.1 in
      record {
        nodes = nodes_of walked.calls;
        are_nodes = record {
          only_nodes = λ n h. ((answers.2 n).0 h).0;
          all_nodes = λ n under. (answers.2 n).1 (
            under,
            λ shut.
                (let y = shut.skipped in
                no-skip y.0.before y.0.state y.0.node y.0.answer y.0.after y.0.left
                (chain-each call s u walked.calls s u' walked.chain y.0 y.1).made y.3),
          );
          in_order = walked.walk.in_order.increasing;
        };
        told = put.0;
        are_told = put.1;
        put = put.2;
      }

-- what is said of equal contexts and texts
pub node-put-again : {K A T B : Type 0} (P : ContextView K A T → IRNode → List ℕ → Type 0) {c d : ContextView K A T}
    {t u t' u' : List ℕ} (n : IRNode) (a : ControlFlow B WalkContinue) → c ≡ d → t ≡ u → t' ≡ u' →
    IsNodePut (P c) t n a t' → IsNodePut (P d) u n a u'
node-put-again P {c} {d} {t} {u} {t'} {u'} n a context before after h =
    subst (λ z. IsNodePut (P d) u n a z) after
    (subst (λ z. IsNodePut (P d) z n a t') before (subst (λ z. IsNodePut (P z) t n a t') context h))

-- one step further up
pub climb-on : {N : Type 0} (up : N → Option N) (k : ℕ) (n at : N) → climb up k (Some n) ≡ Some at →
    climb up (k + 1) (Some n) ≡ up at
climb-on {N = N} up k n at h = ap (λ j. climb up j (Some n)) (let next : k + 1 ≡ suc k = omega arith in next) ∙ by k (Some n) h
  where
    by : (k : ℕ) (o : Option N) → climb up k o ≡ Some at → climb up (suc k) o ≡ up at
    by zero None e = absurd (climb-nothing up zero at e)
    by zero (Some x) e = ap (climb up 1) e
    by (suc k) None e = absurd (climb-nothing up (suc k) at e)
    by (suc k) (Some x) e = by k (up x) e

-- two spaces more
pub two-more : (out old : List ℕ) (k : ℕ) → out ≡ old ++ spaces (2 * k) →
    out ++ codes "  " ≡ old ++ spaces (2 * (k + 1))
two-more out old k h =
    let more : 2 * k + 2 ≡ 2 * (k + 1) = omega arith in
    ap (λ z. z ++ codes "  ") h ∙ append_assoc old (spaces (2 * k)) (codes "  ")
    ∙ ap (λ z. old ++ z) (replicate-append-replicate (2 * k) 2 32 ∙ ap spaces more)
