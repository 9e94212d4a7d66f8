use Rattle.std.proofs.Common.{subst}
use Rattle.plir_core.specs.Uses.{IsRaisedBy, uses_in}
use Rattle.plir_core.proofs.uses.counts.UseCounts.raise_again.Goals as goal

pub returns : goal.returns
returns g c =
    subst (λ z. IsRaisedBy z c.raise_op.new.self (λ at. uses_in at c.args.held.now)) c.note_value.ensures c.raise_op.ensures
