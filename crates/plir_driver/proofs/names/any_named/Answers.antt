use Rattle.std.proofs.Common.{subst}
use Rattle.plir_driver.specs.Named.{IsLookedAt}
use Rattle.plir_driver.proofs.Naming.{broken-off, gone-through}
use Rattle.plir_driver.proofs.names.any_named.Goals as goal

pub returns-in-Break-clause-some : goal.returns-in-Break-clause-some
returns-in-Break-clause-some g c =
    λ told. broken-off c.args.ctx.now c.args.root _
    (λ d u n a d' u' h. (h.stays, subst (λ z. IsLookedAt z n a) h.shows.0 h.met.1)) _ _ c.in-Break.is _ _
    c.walk_op.ensures

pub returns-in-Continue-clause-none : goal.returns-in-Continue-clause-none
returns-in-Continue-clause-none g c =
    λ told. gone-through c.args.ctx.now c.args.root _
    (λ d u n a d' u' h. (h.stays, subst (λ z. IsLookedAt z n a) h.shows.0 h.met.1)) _ _ c.in-Continue.is _ _
    c.walk_op.ensures
