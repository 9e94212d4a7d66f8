use Rattle.std.proofs.Common.{◌≡◌}
use Rattle.plir_core.specs.declared.ptr.IRNode.TheVariants.{BasicBlock}
use Rattle.plir_core.specs.ContextView.{children}
use Rattle.plir_builtin.specs.Left.{left_in}
use Rattle.plir_builtin.proofs.ReadLoop.{IsReading}
use Rattle.plir_builtin.proofs.symbol_table.SymbolTable.read.Given as goal

abbrev pub invariant-ops : goal.invariant-ops
invariant-ops g l =
    record { op : l.self.op ≡ l.fn.self.op; reading : IsReading g.D.OpSet.is_symbol l.ctx l.fn.block l.at l.self }

abbrev pub decreases-ops : goal.decreases-ops
decreases-ops g l = left_in (children l.ctx (BasicBlock l.fn.block)) l.at
