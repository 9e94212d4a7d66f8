-- Operations that a walk has counted.
use Rattle.std.proofs.Common.{◌≡◌, ℕ, ◌+◌, ◌≤◌, min, List, [], ◌∷◌, length, ap, subst, ◌∙◌, arith, zero-add}
use Rattle.std.specs.declared.ops.ControlFlow.{ControlFlow}
use Rattle.std.specs.declared.ops.ControlFlow.TheVariants.{Continue}
use Rattle.plir_core.specs.declared.ptr.Ptr.{Ptr}
use Rattle.plir_core.specs.declared.ptr.Operation.{Operation as OperationKind}
use Rattle.plir_core.specs.declared.ptr.IRNode.{IRNode}
use Rattle.plir_core.specs.declared.ptr.IRNode.TheVariants.{Operation, Region, BasicBlock}
use Rattle.plir_core.specs.ContextView.{ContextView}
use Rattle.plir_core.specs.Forest.{look}
use Rattle.plir_walk.specs.declared.config.TheConstants.{WALKCONFIG_PREORDER_FORWARD as pre_forward}
use Rattle.plir_walk.specs.declared.interruptible.WalkContinue.{WalkContinue}
use Rattle.plir_walk.specs.declared.interruptible.WalkContinue.TheVariants.{Advance}
use Rattle.plir_walk.specs.Calls.{Call, Relation, Chain, nodes_of}
use Rattle.plir_walk.specs.CallLaws.{chain-each}
use Rattle.plir_walk.specs.Walked.{IsCallUnder, WalkedOver}
use Rattle.plir_places.specs.OpsAmong.{has-op, op-has, op-pairs, ops_in}
use Rattle.plir_driver.specs.Counts.{IsCount, IsCounted, most}

module _ {K A T : Type 0} (s : ContextView K A T) (root : Ptr OperationKind)
    (post : Relation (ContextView K A T) ℕ (Unit {0}))
    (each : (c : ContextView K A T) (u : ℕ) (n : IRNode) (a : ControlFlow (Unit {0}) WalkContinue)
    (c' : ContextView K A T) (u' : ℕ) → post c u n a c' u' → (a ≡ Continue Advance) × IsCounted u n u') where
  abbrev call : Relation (ContextView K A T) ℕ (Unit {0})
  call = IsCallUnder look (Operation root) post

  one-more : (u v w : ℕ) (n : IRNode) (k : List IRNode) → IsCounted u n v → w ≡ min (v + length (ops_in k)) most →
      w ≡ min (u + length (ops_in (n ∷ k))) most
  one-more u v w (Operation p) k h e = omega (arith, h, e)
  one-more u v w (Region p) k h e = e ∙ ap (λ z. min (z + length (ops_in k)) most) h
  one-more u v w (BasicBlock p) k h e = e ∙ ap (λ z. min (z + length (ops_in k)) most) h

  all-counted : (calls : List (Call (ContextView K A T) ℕ (Unit {0}))) (c : ContextView K A T) (u : ℕ)
      (c' : ContextView K A T) (u' : ℕ) → u ≤ most → Chain call c u calls c' u' →
      u' ≡ min (u + length (ops_in (nodes_of calls))) most
  all-counted [] c u c' u' below h = omega (arith, h.1, below)
  all-counted (y ∷ ys) c u c' u' below h =
      let made = each y.before y.state y.node y.answer y.after y.left h.2.made in
      let f = subst (λ z. IsCounted z y.node y.left) h.1 made.1 in
      let rest = all-counted ys y.after y.left c' u' (bound u y.left y.node below f) h.3 in
      one-more u y.left u' y.node (nodes_of ys) f rest
    where
      bound : (u v : ℕ) (n : IRNode) → u ≤ most → IsCounted u n v → v ≤ most
      bound u v (Operation p) l e = omega (arith, e)
      bound u v (Region p) l e = omega (arith, l, e)
      bound u v (BasicBlock p) l e = omega (arith, l, e)

  -- a walk has counted exactly the operations at or below the root
  pub walked-count : (u' : ℕ) → WalkedOver look pre_forward post s 0 (Operation root) (Continue Advance) u' →
      IsCount s root u'
  walked-count u' walked =
      let answers = walked.walk.answers in
      let nodes = nodes_of walked.calls in
      record {
        ops = ops_in nodes;
        are_ops = record {
          only_ops = λ p h. ((answers.2 (Operation p)).0 (op-has nodes p h)).0;
          all_ops = λ p under. has-op nodes p ((answers.2 (Operation p)).1 (
            under,
            λ shut.
                (let y = shut.skipped in
                let goes = (each y.0.before y.0.state y.0.node y.0.answer y.0.after y.0.left
                (chain-each call s 0 walked.calls s u' walked.chain y.0 y.1).made).0 in
                absurd (let z : ⊥ = cc (goes, y.3) in z)),
          ));
          in_order = op-pairs _ nodes walked.walk.in_order.increasing;
        };
        number =
            all-counted walked.calls s 0 s u' (omega arith) walked.chain
            ∙ ap (λ z. min z most) (zero-add (length (ops_in nodes)));
      }

-- what is said of equal numbers
pub counted-again : {u v u' v' : ℕ} (n : IRNode) → u ≡ v → u' ≡ v' → IsCounted u n u' → IsCounted v n v'
counted-again {u} {v} {u'} {v'} n before after h =
    subst (λ z. IsCounted v n z) after (subst (λ z. IsCounted z n u') before h)
