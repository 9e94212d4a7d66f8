use Rattle.std.proofs.Common.{inr, refl}
use Rattle.plir_flow.proofs.edge_rule.find_flow_fault.Goals as goal

pub returns-then-not-branch-clause-reported : goal.returns-then-not-branch-clause-reported
returns-then-not-branch-clause-reported g c = inr (refl, c.in_ok-add.ensures.twice c.if-not-branch.true)
