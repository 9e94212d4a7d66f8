-- Walks that come to every node and call at operations alone.
use Rattle.std.proofs.Common.{◌≡◌, ℕ, Result, Ok, ap, sym, subst}
use Rattle.std.specs.Borrow.{Bor, MutBor}
use Rattle.std.specs.Fn.{Shared}
use Rattle.std.specs.declared.ops.ControlFlow.{ControlFlow}
use Rattle.plir_core.specs.declared.ptr.Ptr.{Ptr}
use Rattle.plir_core.specs.declared.ptr.Operation.{Operation as OperationKind}
use Rattle.plir_core.specs.declared.ptr.IRNode.{IRNode}
use Rattle.plir_core.specs.declared.ptr.IRNode.TheVariants.{Operation, BasicBlock, Region}
use Rattle.plir_core.specs.Forest.{Shape}
use Rattle.plir_walk.specs.Calls.{ReadsBack, Relation}
use Rattle.plir_walk.specs.Lawful.{Lawful}
use Rattle.plir_walk.specs.AsRead.{tree_read}
use Rattle.plir_walk.specs.OperationLaws.{operations_within, ops-chain, walked_operations}
use Rattle.plir_walk.specs.OperationWalks.{AtEachNode, IsLawfulAtOperations, OperationRelation, WalkedOperations}
use Rattle.plir_walk.specs.OperationWalks.{WalkedOperationsWithin, operation_calls}
use Rattle.plir_walk.specs.Walked.{IsCallUnder, IsLawful, Walked, WalkedOver}
use Rattle.plir_walk.specs.declared.config.WalkConfig.{WalkConfig}
use Rattle.plir_walk.specs.declared.interruptible.WalkContinue.{WalkContinue}
use Rattle.plir_walk.specs.declared.limit.CallLimit.{CallLimit}
use Rattle.plir_walk.proofs.Advancing.{Chain-map}
use Rattle.plir_walk.proofs.Corollaries.{unchanged-lawful}
use Rattle.plir_walk.proofs.Lawfulness.{lawful-none}

-- what is done between the ends that a wrapper is shown and leaves
pub done-again : {C S B : Type 0} (Q : Relation C S B) {d d' e e' : C} {s s' t t' : S} {n : IRNode}
    {a : ControlFlow B WalkContinue} → (e ≡ d) × (t ≡ s) → (e' ≡ d') × (t' ≡ s') → Q e t n a e' t' → Q d s n a d' s'
done-again Q {d} {d'} {e} {e'} {s} {s'} {t} {t'} {n} {a} shows leaves q =
    subst (λ z. Q z s n a d' s') shows.0 (subst (λ z. Q e z n a d' s') shows.1
    (subst (λ z. Q e t n a z s') leaves.0 (subst (λ z. Q e t n a e' z) leaves.1 q)))

module _ {C S B : Type 0} (look : C → Shape) (post : OperationRelation C S B) (r : IRNode) where
  -- where calls at operations are lawful, so is what is done at each node
  pub lawful-each : IsLawfulAtOperations look r post → IsLawful look r (AtEachNode post)
  lawful-each lawful c s (Operation p) a c' s' h = lawful c s p a c' s' (record {
    stands = h.stands;
    leaves = h.leaves;
    made = h.made;
  })
  lawful-each lawful c s (BasicBlock p) a c' s' h = subst (λ z. Lawful (look c) (BasicBlock p) (look z)) (sym h.made.1)
      (lawful-none (look c) (BasicBlock p))
  lawful-each lawful c s (Region p) a c' s' h = subst (λ z. Lawful (look c) (Region p) (look z)) (sym h.made.1)
      (lawful-none (look c) (Region p))

  module _ (done : Relation C S B) (each : (c : C) (s : S) (n : IRNode) (a : ControlFlow B WalkContinue) (c' : C)
      (s' : S) → done c s n a c' s' → AtEachNode post c s n a c' s') where
    -- what a wrapper does is what is done at each node
    wrapped : (c : C) (s : S) (n : IRNode) (a : ControlFlow B WalkContinue) (c' : C) (s' : S) → IsCallUnder look r done
        c s n a c' s' → IsCallUnder look r (AtEachNode post) c s n a c' s'
    wrapped c s n a c' s' p = record { stands = p.stands; leaves = p.leaves; made = each c s n a c' s' p.made }

    pub wrapped-lawful : IsLawfulAtOperations look r post → IsLawful look r done
    wrapped-lawful lawful c s n a c' s' p = lawful-each lawful c s n a c' s' (wrapped c s n a c' s' p)

    pub over-operations : (w : WalkConfig) (c : C) (s : S) (a : ControlFlow B WalkContinue) (s' : S) → WalkedOver look w
        done c s r a s' → WalkedOperations look w post c s r a s'
    over-operations w c s a s' h =
        let chain = Chain-map (IsCallUnder look r done) (IsCallUnder look r (AtEachNode post)) wrapped c s h.calls c s'
        h.chain in
        record {
          calls = operation_calls h.calls;
          chain = ops-chain look post r c s h.calls c s' chain;
          walk = walked_operations look post r c s h.calls c s' chain w (look c).children a h.walk;
        }

    pub within-operations : (w : WalkConfig) (c : C) (s : S) (limit : ℕ) (a : Result (ControlFlow B WalkContinue)
        CallLimit) (c' : C) (s' : S) → Walked look w done c s r limit a c' s' → WalkedOperationsWithin look w post c s r
        limit a c' s'
    within-operations w c s limit a c' s' h =
        let chain = Chain-map (IsCallUnder look r done) (IsCallUnder look r (AtEachNode post)) wrapped c s h.calls c' s'
        h.chain in
        record {
          walked = record {
            calls = h.calls;
            chain = chain;
            as_read = h.as_read;
            at_exit = h.at_exit;
            at_entry = h.at_entry;
            unchanged = λ k. h.unchanged (λ d t n b d' t' p. k d t n b d' t' (wrapped d t n b d' t' p));
          };
          chain = ops-chain look post r c s h.calls c' s' chain;
          as_read = operations_within look post r c s h.calls c' s' chain w (tree_read look w h.calls c') limit a
              h.as_read;
        }

-- where a callback only reads the context, so does what is done at each node
module _ {F C S B : Type 0} (look : C → Shape) (r : IRNode) (g : Shared F (Bor C ×
    (MutBor S × (Ptr OperationKind × Unit {0}))) (ControlFlow B WalkContinue × (MutBor S × Unit {0}))) (f : F) where
  each-stays : (c : C) (s : S) (n : IRNode) (a : ControlFlow B WalkContinue) (c' : C) (s' : S) → AtEachNode
      (ReadsBack g f) c s n a c' s' → c' ≡ c
  each-stays c s (Operation p) a c' s' h = h.stays
  each-stays c s (BasicBlock p) a c' s' h = h.1
  each-stays c s (Region p) a c' s' h = h.1

  pub reads-each : IsLawful look r (AtEachNode (ReadsBack g f))
  reads-each c s n a c' s' p = unchanged-lawful (look c) (look c') n (ap look (each-stays c s n a c' s' p.made))

  pub read-operations : (w : WalkConfig) (c : C) (s : S) (limit : ℕ) (a : ControlFlow B WalkContinue) (s' : S) → Walked
      look w (AtEachNode (ReadsBack g f)) c s r limit (Ok a) c s' → WalkedOperations look w (ReadsBack g f) c s r a s'
  read-operations w c s limit a s' h =
      let over = h.unchanged (λ d t n b d' t' p. let e = each-stays d t n b d' t' p.made in record
      { live = λ m. ap (λ z. (look z).live m) e; children = λ m. ap (λ z. (look z).children m) e }) in
      over-operations look (ReadsBack g f) r (AtEachNode (ReadsBack g f)) (λ d t n b d' t' q. q) w c s a s'
      (record { calls = h.calls; chain = h.chain; walk = record { in_order = over.in_order; answers = over.answers } })
