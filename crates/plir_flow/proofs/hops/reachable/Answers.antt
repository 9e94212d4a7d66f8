use Rattle.std.proofs.Common.{subst, ◌↔◌}
use Rattle.std.proofs.Math.Logic.Iff
use Rattle.std.proofs.lemmas.Result.{IfOk-weaker}
use Rattle.plir_store.specs.Members.{Has}
use Rattle.plir_flow.specs.Paths.{LeadsTo}
use Rattle.plir_flow.specs.RegionEdges.{IsStep}
use Rattle.plir_flow.specs.Hops.{IsHop}
use Rattle.plir_flow.proofs.Reaching.{leads-like}
use Rattle.plir_flow.proofs.hops.reachable.Goals as goal

pub returns-clause-all : goal.returns-clause-all
returns-clause-all g c =
    let H = IsHop c.add_edges.new.hops.items in
    let S = IsStep c.args.ctx.now c.args.edges.now in
    let same = c.in_ok-add_edges.ensures.steps in
    let start = c.args.start in
    IfOk-weaker c.list_reached.result _ _ (λ rs w b. Iff.trans
    (subst (λ l. Has rs.items b ↔ LeadsTo (IsHop l) start b) c.deref.ensures.value (w b))
    (leads-like H S (λ x y. (same x y).0) start b, leads-like S H (λ x y. (same x y).1) start b))
    c.list_reached.ensures.all
