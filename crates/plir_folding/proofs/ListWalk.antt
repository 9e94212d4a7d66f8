-- A walk that lists operations below its root.
use Rattle.std.proofs.Common.{◌≡◌, ◌≢◌, ℕ, zero, suc, Some, inl, inr, refl, sym, ap, subst, ◌∙◌}
use Rattle.std.proofs.lemmas.Option.{same_Some}
use Rattle.std.specs.declared.ops.ControlFlow.{ControlFlow}
use Rattle.std.specs.declared.ops.ControlFlow.TheVariants.{Continue, Break}
use Rattle.plir_core.specs.declared.ptr.Ptr.{Ptr}
use Rattle.plir_core.specs.declared.ptr.Operation.{Operation as OperationKind}
use Rattle.plir_core.specs.declared.ptr.IRNode.{IRNode}
use Rattle.plir_core.specs.declared.ptr.IRNode.TheVariants.{Operation, Region, BasicBlock}
use Rattle.plir_core.specs.Above.{climb}
use Rattle.plir_core.specs.ContextView.{ContextView, parent_of}
use Rattle.plir_core.specs.Forest.{look, IsBelow}
use Rattle.plir_walk.specs.declared.interruptible.WalkContinue.{WalkContinue}
use Rattle.plir_walk.specs.declared.interruptible.WalkContinue.TheVariants.{Advance, Skip}
use Rattle.plir_walk.specs.declared.config.WalkConfig.{WalkConfig}
use Rattle.plir_walk.specs.Calls.{Relation}
use Rattle.plir_walk.specs.CallLaws.{kept_from_entry_to_exit}
use Rattle.plir_walk.specs.NodeLaws.{same-op}
use Rattle.plir_walk.specs.OperationWalks.{OperationRelation, AtOperations, IsOperationDue, WalkedOperations}
use Rattle.plir_walk.specs.Walk.{AnswersBy}
use Rattle.plir_walk.specs.Walked.{IsCallUnder}
use Rattle.plir_folding.specs.declared.worklist.Worklist.{Worklist}
use Rattle.plir_folding.specs.Worklists.{AreOf, IsListedAt}
use Rattle.plir_folding.proofs.Walking.{Unbroken, unbroken-chain}
use Rattle.plir_folding.proofs.Worklists.{of-put}

module _ {K A T B : Type 0} (s : ContextView K A T) (root : Ptr OperationKind)
    (post : OperationRelation (ContextView K A T) Worklist B)
    (each : (c : ContextView K A T) (w : Worklist) (p : Ptr OperationKind) (a : ControlFlow B WalkContinue)
    (c' : ContextView K A T) (w' : Worklist) → post c w p a c' w' → (c' ≡ c) × IsListedAt root w p a w') where
  abbrev call : Relation (ContextView K A T) Worklist B
  call = IsCallUnder look (Operation root) (AtOperations post)

  -- an operation stands below the root
  abbrev Stands : Ptr OperationKind → Type 0
  Stands p = IsBelow (look s) (Operation root) (Operation p)

  -- what a call keeps: the context, and that all that is listed stands below the root
  abbrev Keeps : ContextView K A T → Worklist → ContextView K A T → Worklist → Type 0
  Keeps c w c' w' = c ≡ s → (c' ≡ s) × (AreOf Stands w → AreOf Stands w')

  -- what stands under the root, and is not the root, stands below it
  below : (p : Ptr OperationKind) (k : ℕ) → climb (parent_of s) k (Some (Operation p)) ≡ Some (Operation root) → p ≢ root
      → Stands p
  below p zero e other = absurd (other (same-op p root (same_Some (Operation p) (Operation root) e)))
  below p (suc k) e other = (k, e)

  keeps : (c c' : ContextView K A T) (w w' : Worklist) (n : IRNode) (a : ControlFlow B WalkContinue)
      → Unbroken call c w n a c' w' → Keeps c w c' w'
  keeps c c' w w' (Region p) a h e = absurd h.0.made
  keeps c c' w w' (BasicBlock p) a h e = absurd h.0.made
  keeps c c' w w' (Operation p) a h e = (made.0 ∙ e, λ all. listed a h.1 made.1 all)
    where
      made : (c' ≡ c) × IsListedAt root w p a w'
      made = each c w p a c' w' h.0.made

      listed : (a : ControlFlow B WalkContinue) → ((b : B) → a ≢ Break b) → IsListedAt root w p a w'
          → AreOf Stands w → AreOf Stands w'
      listed (Continue Advance) k (inl same) all = subst (AreOf Stands) (sym same) all
      listed (Continue Advance) k (inr put) all =
          let under = h.0.stands.under_root in
          let here = ap (λ z. climb (parent_of z) under.0 (Some (Operation p))) (sym e) ∙ under.1 in
          of-put Stands w w' p all (below p under.0 here put.0) put.1
      listed (Continue Skip) k i all = absurd i
      listed (Break b) k i all = absurd (k b refl)

  -- a walk that went to its end has listed operations below the root alone
  pub walked-below : (config : WalkConfig) (answer : ControlFlow B WalkContinue) (k : WalkContinue) → answer ≡ Continue k
      → (w w' : Worklist) → WalkedOperations look config post s w (Operation root) answer w' → AreOf Stands w
      → AreOf Stands w'
  walked-below config answer k is w w' walked all =
      let t = (look s).children in
      let answers = subst (λ z. AnswersBy config t (Operation root) (IsOperationDue config t (Operation root)) walked.calls z)
      is walked.walk.answers in
      let chain = unbroken-chain call s w walked.calls s w' walked.chain answers.1 in
      (kept_from_entry_to_exit (Unbroken call) Keeps
      (record {
        itself = λ c u e. (e, λ x. x);
        on = λ c d e u v x g h i. (let a = g i in let b = h a.0 in (b.0, λ y. b.1 (a.1 y)));
      })
      keeps s s w w' walked.calls chain refl).1 all

-- what is said of equal lists
pub listed-again : {B : Type 0} (root : Ptr OperationKind) {u v u' v' : Worklist} (p : Ptr OperationKind)
    (a : ControlFlow B WalkContinue) → u ≡ v → u' ≡ v' → IsListedAt root u p a u' → IsListedAt root v p a v'
listed-again root {u} {v} {u'} {v'} p a before after h =
    subst (λ z. IsListedAt root v p a z) after (subst (λ z. IsListedAt root z p a u') before h)
