use Rattle.std.proofs.Common.{sym, subst}
use Rattle.plir_core.specs.ContextView.{IsLive}
use Rattle.plir_bench.proofs.order.put_op.Goals as goal

pub returns-in-Along : goal.returns-in-Along
returns-in-Along c n live = subst (λ s. IsLive s n) (sym c.insert_at_back.ensures.after) live

pub returns-in-Against : goal.returns-in-Against
returns-in-Against c n live = subst (λ s. IsLive s n) (sym c.insert_at_front.ensures.after) live
