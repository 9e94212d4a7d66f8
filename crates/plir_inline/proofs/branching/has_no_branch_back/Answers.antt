use Rattle.std.proofs.Common.{refl, ap, ◌∙◌}
use Rattle.std.proofs.lemmas.Bool.{false≢true}
use Rattle.plir_inline.specs.Branches.{branch_answer}
use Rattle.plir_inline.proofs.BranchCalls.{went-on, broke-off}
use Rattle.plir_inline.proofs.branching.has_no_branch_back.Goals as goal

pub returns-in-Break : goal.returns-in-Break
returns-in-Break g c = (
  λ yes. absurd (false≢true yes),
  λ none. absurd (broke-off _ _ c.args.block (λ d s n a d' s' h. (h.stays, h.met.1 ∙ ap (λ z. branch_answer c.args.block z n) h.shows.0))
      c.args.ctx.now c.stands.ensures.standing.forest _ _ _ _ c.in-Break.is c.walk_block.ensures none),
)

pub returns-in-Continue : goal.returns-in-Continue
returns-in-Continue g c = (
  λ _. went-on _ _ c.args.block (λ d s n a d' s' h. (h.stays, h.met.1 ∙ ap (λ z. branch_answer c.args.block z n) h.shows.0)) c.args.ctx.now
      c.stands.ensures.standing.forest _ _ _ _ c.in-Continue.is c.walk_block.ensures,
  λ _. refl,
)
