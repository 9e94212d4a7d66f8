use Rattle.plir_iface.specs.VerdictLaws.{refusal-weaker}
use Rattle.plir_iface.proofs.FirstFailing.{first-of-all}
use Rattle.plir_iface.proofs.misfits.verify_each.Goals as goal

pub returns-in-Some-clause-refused : goal.returns-in-Some-clause-refused
returns-in-Some-clause-refused g c =
    let m = c.in-Some.ensures.some in
    let first = first-of-all _ c.args.ctx.now _ _ _ m.1 in
    refusal-weaker c.args.ctx.now c.args.op _ _
    (λ e h. (c.in-Some.misfit, ((m.0, rw c.len-count.ensures.value at first, m.2, m.3), rw h c.from.ensures)))
    c.refusal.result c.refusal.ensures.refused
