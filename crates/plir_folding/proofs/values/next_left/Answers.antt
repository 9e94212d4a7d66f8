use Rattle.std.proofs.Common.{subst}
use Rattle.plir_folding.specs.PassedOn.{IsLookedAt}
use Rattle.plir_folding.proofs.Searching.{found-at-break, passed-at-end}
use Rattle.plir_folding.proofs.values.next_left.Goals as goal

pub returns-in-Break-clause-below : goal.returns-in-Break-clause-below
returns-in-Break-clause-below g c =
    (found-at-break g.D.IdentitySet.is_identity _ c.args.ctx.now c.stands.ensures.standing c.args.root _
    (λ d u p a d' u' h. (
      h.stays,
      subst (λ z. IsLookedAt g.D.IdentitySet.is_identity z c.args.root p a) h.shows.0 h.met.1,
    )) _ _ _ _ c.in-Break.is c.walk_ops.ensures).0

pub returns-in-Break-clause-left : goal.returns-in-Break-clause-left
returns-in-Break-clause-left g c =
    (found-at-break g.D.IdentitySet.is_identity _ c.args.ctx.now c.stands.ensures.standing c.args.root _
    (λ d u p a d' u' h. (
      h.stays,
      subst (λ z. IsLookedAt g.D.IdentitySet.is_identity z c.args.root p a) h.shows.0 h.met.1,
    )) _ _ _ _ c.in-Break.is c.walk_ops.ensures).1

pub returns-in-Continue-clause-none : goal.returns-in-Continue-clause-none
returns-in-Continue-clause-none g c = λ e.
    passed-at-end g.D.IdentitySet.is_identity _ c.args.ctx.now c.stands.ensures.standing c.args.root _
    (λ d u p a d' u' h. (
      h.stays,
      subst (λ z. IsLookedAt g.D.IdentitySet.is_identity z c.args.root p a) h.shows.0 h.met.1,
    )) _ _ _ _ c.in-Continue.is c.walk_ops.ensures
