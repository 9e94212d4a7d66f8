use Rattle.std.proofs.Common.{take}
use Rattle.std.specs.Prelude.{All}
use Rattle.plir_flow.specs.RegionRule.{IsEdgeRight}
use Rattle.plir_flow.specs.EdgeVerdicts.{AreFirsts, first_place}
use Rattle.plir_flow.proofs.edge_rule.find_faults.Given as goal

abbrev pub invariant-loop-place : goal.invariant-loop-place
invariant-loop-place g l =
    AreFirsts l.edges l.place (first_place l.firsts) ×
    All (IsEdgeRight g.D.OpSet.is_terminator l.ctx l.op) (take l.place l.edges)
