use Rattle.std.proofs.Common.{refl, subst}
use Rattle.std.proofs.lemmas.Bool.{false≢true}
use Rattle.plir_core.specs.declared.ptr.IRNode.TheVariants.{Operation, BasicBlock}
use Rattle.plir_roundtrip.specs.ReadableParts.{IsAnswerAt, IsNodeReadable}
use Rattle.plir_roundtrip.proofs.ReadableCalls.{broke_off, each_readable, went_on}
use Rattle.plir_roundtrip.proofs.readable.are_all_readable.Goals as goal

pub returns-in-Break : goal.returns-in-Break
returns-in-Break g c = (
  λ yes. absurd (false≢true yes),
  λ all. let found =
      broke_off _ _ (λ s n. IsNodeReadable s n) (λ s n u. IsNodeReadable s n → ⊥)
      (λ d s n a d' s' h. (h.stays, subst (λ z. IsAnswerAt z n a) h.shows.0 h.met.1))
      c.args.ctx.now c.args.op _ _ _ _ c.in-Break.is c.walk_op.ensures in
      absurd (found.found (each_readable c.args.ctx.now (Operation c.args.op) found.node all found.under)),
)

pub returns-in-Continue : goal.returns-in-Continue
returns-in-Continue g c =
    let ended =
    went_on _ _ (λ s n. IsNodeReadable s n) (λ s n u. IsNodeReadable s n → ⊥)
    (λ d s n a d' s' h. (h.stays, subst (λ z. IsAnswerAt z n a) h.shows.0 h.met.1)) c.args.ctx.now
    c.args.op _ _ _ _ c.in-Continue.is c.walk_op.ensures in (
      λ _. record { ops = λ q u. ended (Operation q) u; blocks = λ b u. ended (BasicBlock b) u },
      λ _. refl,
    )
