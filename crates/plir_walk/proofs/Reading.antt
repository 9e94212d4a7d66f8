-- Walks whose callback only reads the context.
use Rattle.std.proofs.Common.{ℕ, Ok, ap}
use Rattle.std.specs.Borrow.{Bor, MutBor}
use Rattle.std.specs.Fn.{Shared}
use Rattle.std.specs.declared.ops.ControlFlow.{ControlFlow}
use Rattle.plir_walk.specs.Calls.{ReadsBack}
use Rattle.plir_walk.specs.Walked.{IsLawful, Walked, WalkedOver}
use Rattle.plir_walk.specs.declared.config.WalkConfig.{WalkConfig}
use Rattle.plir_walk.specs.declared.interruptible.WalkContinue.{WalkContinue}
use Rattle.plir_core.specs.declared.ptr.IRNode.{IRNode}
use Rattle.plir_core.specs.Forest.{Shape}
use Rattle.plir_walk.proofs.Corollaries.{unchanged-lawful}

module _ {F C S B : Type 0} (look : C → Shape) (w : WalkConfig) (g : Shared F (Bor C × (MutBor S × (IRNode × Unit {0})))
    (ControlFlow B WalkContinue × (MutBor S × Unit {0}))) (f : F) where
  pub walked-over : (c : C) (s : S) (r : IRNode) (limit : ℕ) (a : ControlFlow B WalkContinue) (s' : S)
      → Walked look w (ReadsBack g f) c s r limit (Ok a) c s' → WalkedOver look w (ReadsBack g f) c s r a s'
  walked-over c s r limit a s' h =
      let over = h.unchanged (λ d s n a d' s' p. record {
        live = λ m. ap (λ z. (look z).live m) p.made.stays;
        children =
            λ m. ap (λ z. (look z).children m) p.made.stays;
      }) in
      record { calls = h.calls; chain = h.chain; walk = record { in_order = over.in_order; answers = over.answers } }

module _ {F C S B : Type 0} (look : C → Shape) (g : Shared F (Bor C × (MutBor S × (IRNode × Unit {0})))
    (ControlFlow B WalkContinue × (MutBor S × Unit {0}))) (f : F) where
  pub reads-lawful : (r : IRNode) → IsLawful look r (ReadsBack g f)
  reads-lawful r d s n a d' s' p = unchanged-lawful (look d) (look d') n (ap look p.made.stays)
