use Rattle.std.proofs.Common.{◌-◌, ◌≤◌, ◌≡◌, [], length, take, drop}
use Rattle.plir_core.specs.declared.ptr.IRNode.{IRNode}
use Rattle.plir_core.specs.ContextView.{ContextView, num_live}
use Rattle.plir_core.specs.WellFormed.{IsWellFormed}
use Rattle.plir_copies.specs.Twins.{IsCopying}
use Rattle.plir_copies.proofs.trees.copy_below.Given as goal

abbrev pub invariant-nodes : goal.invariant-nodes
invariant-nodes g l = record {
  within : l.done ≤ length l.twins.items;
  copying : (s : ContextView g.row.D-Kind.Denot g.row.D-Attr.Denot g.row.D-Ty.Denot) → (root copy : IRNode) →
      IsCopying s l.fn.ctx root copy [] l.fn.twins.items →
      IsCopying s l.ctx root copy (take l.done l.twins.items) (drop l.done l.twins.items);
  types : l.ctx.types ≡ l.fn.ctx.types;
  formed : IsWellFormed g.D.OpSet.attr_handles l.ctx;
}

abbrev pub decreases-nodes : goal.decreases-nodes
decreases-nodes g l = num_live l.fn.ctx - l.done
