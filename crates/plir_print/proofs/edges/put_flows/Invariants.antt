use Rattle.std.proofs.Common.{◌≡◌, ◌++◌, codes, drop, string_bytes}
use Rattle.plir_print.specs.EdgeText.{flow_text}
use Rattle.plir_data.specs.TextParts.{parted, parted_from}
use Rattle.plir_print.proofs.edges.put_flows.Given as goal

abbrev pub invariant-flows : goal.invariant-flows
invariant-flows g l =
    string_bytes l.out ++ parted_from l.is_first (codes ", ") (flow_text l.ctx) (drop l.flow-index l.flows) ≡
    string_bytes l.fn.out ++ parted (codes ", ") (flow_text l.ctx) l.flows
