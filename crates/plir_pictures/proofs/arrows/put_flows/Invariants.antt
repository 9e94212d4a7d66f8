use Rattle.std.proofs.Common.{◌≡◌, ◌++◌, drop, string_bytes}
use Rattle.std.specs.List.{flat_map}
use Rattle.plir_core.specs.ContextView.{successors_of}
use Rattle.plir_pictures.specs.Arrows.{flow_arrow, flow_arrows}
use Rattle.plir_pictures.proofs.arrows.put_flows.Given as goal

abbrev pub invariant-successors : goal.invariant-successors
invariant-successors g l =
    string_bytes l.out ++ flat_map (flow_arrow l.ctx l.op) (drop l.place (successors_of l.ctx l.op)) ≡
    string_bytes l.fn.out ++ flow_arrows l.ctx l.op
