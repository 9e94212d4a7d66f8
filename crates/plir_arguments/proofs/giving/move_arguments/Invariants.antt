use Rattle.plir_core.specs.WellFormed.{IsWellFormed}
use Rattle.plir_inline.specs.Given.{IsGiven}
use Rattle.plir_arguments.specs.Dropped.{moved}
use Rattle.plir_arguments.proofs.giving.move_arguments.Given as goal

abbrev pub invariant-loop-place : goal.invariant-loop-place
invariant-loop-place g l = record {
  given : IsGiven l.fn.ctx l.ctx (moved l.block l.other l.gone l.place);
  whole : IsWellFormed g.D.OpSet.attr_handles l.ctx;
}
