use Rattle.std.proofs.Common.{codes, drop, arith}
use Rattle.std.proofs.lemmas.List.{drop_all}
use Rattle.plir_print.specs.EdgeText.{flow_text}
use Rattle.plir_data.specs.TextLaws.{ended}
use Rattle.plir_print.proofs.edges.put_flows.Goals as goal

pub returns : goal.returns
returns g c =
    ended (codes ", ") (flow_text c.args.ctx.now) c.flows.is_first _ _ (drop c.flows.flow-index c.args.flows.now)
    (drop_all c.flows.flow-index c.args.flows.now (omega arith)) c.flows.invariant
