use Rattle.std.proofs.Common.{refl, ap, ◌∙◌}
use Rattle.std.proofs.lemmas.Bool.{false≢true}
use Rattle.plir_print.specs.HeaderWalk.{header_answer}
use Rattle.plir_print.proofs.HeaderCalls.{went-on, broke-off}
use Rattle.plir_print.proofs.printable.is_printable.Goals as goal

pub returns-in-Break-clause-value : goal.returns-in-Break-clause-value
returns-in-Break-clause-value g c = (
  λ yes. absurd (false≢true yes),
  λ printable. absurd (broke-off _ _ (λ d s n a d' s' h. (h.stays, h.met.1 ∙ ap (λ z. header_answer z n) h.shows.0))
      c.args.ctx.now c.args.op _ _ _ _ c.in-Break.is c.walk_op.ensures printable),
)

pub returns-in-Continue-clause-value : goal.returns-in-Continue-clause-value
returns-in-Continue-clause-value g c = (
  λ _. went-on _ _ (λ d s n a d' s' h. (h.stays, h.met.1 ∙ ap (λ z. header_answer z n) h.shows.0)) c.args.ctx.now
      c.args.op _ _ _ _ c.in-Continue.is c.walk_op.ensures,
  λ _. refl,
)
