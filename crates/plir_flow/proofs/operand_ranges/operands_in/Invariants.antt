use Rattle.std.proofs.Common.{◌≡◌}
use Rattle.std.specs.Prelude.{All, slice_range}
use Rattle.plir_core.specs.ContextView.{operands_of, IsValueLive}
use Rattle.plir_flow.proofs.operand_ranges.operands_in.Given as goal

abbrev pub invariant-loop-place : goal.invariant-loop-place
invariant-loop-place g l = record {
  values : l.values.items ≡ slice_range (operands_of l.ctx l.op) l.start l.place;
  live : All (IsValueLive l.ctx) l.values.items;
}
