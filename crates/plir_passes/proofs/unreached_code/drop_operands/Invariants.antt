use Rattle.std.proofs.Common.{◌≡◌, length}
use Rattle.plir_core.specs.ContextView.{operands_of}
use Rattle.plir_passes.specs.Cutting.{IsCut}
use Rattle.plir_passes.proofs.unreached_code.drop_operands.Given as goal

abbrev pub invariant-operands : goal.invariant-operands
invariant-operands g l = record {
  cut : IsCut (λ q. q ≡ l.op) l.fn.ctx l.ctx;
  count : length (operands_of l.ctx l.op) ≡ l.left;
}

abbrev pub decreases-operands : goal.decreases-operands
decreases-operands g l = l.left
