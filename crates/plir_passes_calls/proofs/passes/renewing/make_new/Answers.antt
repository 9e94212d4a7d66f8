use Rattle.std.proofs.Common.{ap}
use Rattle.plir_core.specs.ContextView.{kind_in}
use Rattle.plir_passes.specs.Legal.{is_kind}
use Rattle.plir_passes_calls.specs.EffectKinds.{is_old}
use Rattle.plir_passes_calls.proofs.passes.renewing.make_new.Goals as goal

pub returns-clause-legal : goal.returns-clause-legal
returns-clause-legal c = ap (λ z. is_kind is_old (kind_in z)) c.in_ok-new.ensures.made.held
