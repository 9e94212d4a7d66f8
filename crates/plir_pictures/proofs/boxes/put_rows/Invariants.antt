use Rattle.std.proofs.Common.{string_bytes}
use Rattle.plir_core.specs.declared.ptr.IRNode.TheVariants.{BasicBlock}
use Rattle.plir_pictures.specs.Boxes.{row_at}
use Rattle.plir_pictures.proofs.Rows.{IsPassing, nodes_left}
use Rattle.plir_pictures.proofs.boxes.put_rows.Given as goal

abbrev pub invariant-rows : goal.invariant-rows
invariant-rows g l =
    IsPassing (row_at g.D.OpSet l.ctx) l.ctx (BasicBlock l.fn.block) (string_bytes l.fn.out) (string_bytes l.out) l.at

abbrev pub decreases-rows : goal.decreases-rows
decreases-rows g l = nodes_left (row_at g.D.OpSet l.ctx) l.ctx (BasicBlock l.fn.block) l.at
