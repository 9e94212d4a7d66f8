use Rattle.std.proofs.Common.{◌≡◌, subst, sym, true, false}
use Rattle.std.specs.Prelude.{All}
use Rattle.plir_flow.specs.RegionEdges.{EdgeView}
use Rattle.plir_flow.specs.RegionRule.{IsOwnRead}
use Rattle.plir_flow.proofs.edge_rule.find_edge_fault.Goals as goal

pub returns-then-not-are_own_reads-clause-reported : goal.returns-then-not-are_own_reads-clause-reported
returns-then-not-are_own_reads-clause-reported g c = λ all.
    let seen = subst (λ (z : EdgeView). All (IsOwnRead c.args.op z.from) z.reads) (sym c.edge.view_is) all in
    let f : false ≡ true =
    c.if-not-are_own_reads.ensures.1
    (subst (All (IsOwnRead c.args.op c.edge.inside.from)) (sym c.deref.ensures.value) seen) in
    cc
