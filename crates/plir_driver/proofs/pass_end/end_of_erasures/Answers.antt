use Rattle.std.proofs.Common.{sym, ◌∙◌}
use Rattle.plir_driver.proofs.Ending.{other-size, thinned-same}
use Rattle.plir_driver.proofs.pass_end.end_of_erasures.Goals as goal

pub returns-then-num_live-live_before-clause-end : goal.returns-then-num_live-live_before-clause-end
returns-then-num_live-live_before-clause-end g c =
    λ s before thinned. thinned-same s c.args.ctx.now thinned
    (sym c.num_live.ensures.value ∙ c.if-num_live-live_before.true ∙ sym before)

pub returns-else-num_live-live_before-clause-exact : goal.returns-else-num_live-live_before-clause-exact
returns-else-num_live-live_before-clause-exact g c =
    λ s before told. other-size s c.args.ctx.now
    (λ same. c.if-num_live-live_before.false (c.num_live.ensures.value ∙ same ∙ before))
