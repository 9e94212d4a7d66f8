use Rattle.std.proofs.Common.{◌≡◌, length, take}
use Rattle.plir_store.specs.Members.{Has}
use Rattle.plir_core.specs.declared.ptr.BasicBlock.{BasicBlock as BlockKind}
use Rattle.plir_core.specs.declared.ptr.Ptr.{Ptr}
use Rattle.plir_core.specs.ContextView.{operands_of, successors_of}
use Rattle.plir_passes.specs.Cutting.{IsCut}
use Rattle.plir_passes.proofs.unreached_code.turn_successors.Given as goal

abbrev pub invariant-loop-place : goal.invariant-loop-place
invariant-loop-place g l = record {
  cut : IsCut (λ q. q ≡ l.op) l.fn.ctx l.ctx;
  all : (b : Ptr BlockKind) → Has (take l.place (successors_of l.ctx l.op)) b → b ≡ l.block;
  count : length (successors_of l.ctx l.op) ≡ l.count;
  operands : operands_of l.ctx l.op ≡ operands_of l.fn.ctx l.op;
}
