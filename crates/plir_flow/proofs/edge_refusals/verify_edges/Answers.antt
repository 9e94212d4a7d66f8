use Rattle.plir_iface.specs.VerdictLaws.{aside-weaker}
use Rattle.plir_flow.proofs.edge_refusals.verify_edges.Goals as goal

pub returns-in-Ok-Some-clause-refused : goal.returns-in-Ok-Some-clause-refused
returns-in-Ok-Some-clause-refused g c =
    let broken = rw c.in-Ok-Some.field-0-is at c.in-Ok-Some.ensures.reported in
    aside-weaker c.args.ctx.now c.args.op _ _ (λ e t. (c.in-Ok-Some.fault, (broken, t))) c.report.result
    c.report.ensures.reported
