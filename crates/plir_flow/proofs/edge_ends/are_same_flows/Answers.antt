use Rattle.std.proofs.Common.{rules}
use Rattle.std.proofs.lemmas.Bool.Decides.{Decides-at}
use Rattle.std.specs.Cmp.Lexicographic.{pointwise_decides}
use Rattle.plir_flow.proofs.edge_ends.are_same_flows.Goals as goal

pub returns : goal.returns
returns c =
    Decides-at c.eq.result _ c.eq.ensures (pointwise_decides (λ x y. search rules) c.args.flows.now c.args.others.now)
