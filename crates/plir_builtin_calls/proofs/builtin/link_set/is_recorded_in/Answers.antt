use Rattle.std.proofs.Common.{IsSome, ◌∙◌, sym, subst}
use Rattle.plir_builtin_calls.proofs.Bodies.{one_region, single_blocks}
use Rattle.plir_builtin_calls.proofs.builtin.link_set.is_recorded_in.Goals as goal

pub returns-in-Ok-clause-found : goal.returns-in-Ok-clause-found
returns-in-Ok-clause-found g c = λ agree.
    let found = c.in-Ok.ensures.found agree in
    let good = c.in-Ok.ensures.good agree in (
      (λ yes. record {
        one_region = one_region c.args.ctx.now c.args.table good.body;
        single_blocks = single_blocks c.args.ctx.now c.args.table good.body;
        found = subst IsSome found (sym c.is_some.ensures ∙ yes);
      }),
      (λ it. c.is_some.ensures ∙ (subst IsSome (sym found) it.found)),
    )
