use Rattle.plir_core.specs.ContextView.{operands_of}
use Rattle.plir_core.specs.WellFormed.{IsWellFormed}
use Rattle.plir_core.specs.Held.{IsOpEdited}
use Rattle.plir_core.specs.Room.{no_node, HaveCome}
use Rattle.plir_copies.specs.Images.{images}
use Rattle.plir_copies.proofs.Edits.{half_set}
use Rattle.plir_copies.proofs.copying.change_operands.Given as goal

abbrev pub invariant-loop-i : goal.invariant-loop-i
invariant-loop-i g l = record {
  edited : IsOpEdited l.fn.ctx l.ctx l.op (half_set (images l.map) (operands_of l.fn.ctx l.op) l.i);
  none_come : HaveCome l.fn.ctx.nodes l.ctx.nodes no_node;
  formed : IsWellFormed g.D.OpSet.attr_handles l.ctx;
}
