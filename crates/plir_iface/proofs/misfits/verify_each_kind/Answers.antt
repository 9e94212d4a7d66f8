use Rattle.plir_iface.specs.VerdictLaws.{refusal-aside}
use Rattle.plir_iface.proofs.FirstFailing.{first-of-all}
use Rattle.plir_iface.proofs.misfits.verify_each_kind.Goals as goal

pub returns-clause-refused : goal.returns-clause-refused
returns-clause-refused g c =
    let m = c.in-Some.ensures.some in
    let first = first-of-all _ c.args.ctx.now _ _ _ m.1 in
    refusal-aside c.args.ctx.now c.args.op _ _
    (λ e h. (
      record { wanted = c.in-Some.misfit.wanted; found = c.in-Ok.found },
      (
        (
          m.2,
          (
            c.in-Some.misfit.place,
            (rw c.len-count.ensures.value at first, rw c.type_at.ensures.value c.in-Ok.ensures),
          ),
        ),
        rw h c.from.ensures,
      ),
    )) c.refusal.result c.refusal.ensures.refused
