use Rattle.std.proofs.Common.{◌<◌, ◌≤◌, ◌∙◌, sym, subst, arith, length}
use Rattle.std.specs.Prelude.{All}
use Rattle.std.proofs.lemmas.List.{take_all}
use Rattle.std.proofs.lemmas.List.Elements.{All-more}
use Rattle.plir_flow.specs.RegionRule.{IsEdgeRight}
use Rattle.plir_flow.specs.EdgeVerdicts.{first_place}
use Rattle.plir_flow.proofs.EdgeRules.{firsts-all}
use Rattle.plir_flow.proofs.edge_rule.find_faults.Goals as goal

pub loop-place-preserved : goal.loop-place-preserved
loop-place-preserved g c =
    let es = c.args.edges.now in
    let i = c.loop-place.place in
    let below : i < length es = omega arith in
    let no = sym c.is_some.ensures ∙ c.if-is_some.false in
    let right = c.in_ok-found.ensures.right no in (
      c.in_ok-found.ensures.next no,
      λ k d h. All-more (IsEdgeRight g.D.OpSet.is_terminator c.args.ctx.now c.args.op) es
          i d below c.loop-place.invariant.1 (right d) k d h,
    )

pub returns-clause-reported : goal.returns-clause-reported
returns-clause-reported g c =
    let es = c.args.edges.now in
    let long : length es ≤ c.loop-place.place = omega arith in
    record {
      same = firsts-all es c.loop-place.place (first_place c.loop-place.firsts) c.loop-place.invariant.0 long;
      each =
          subst (All (IsEdgeRight g.D.OpSet.is_terminator c.args.ctx.now c.args.op))
          (take_all c.loop-place.place es long) c.loop-place.invariant.1;
    }
