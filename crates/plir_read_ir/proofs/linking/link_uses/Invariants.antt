use Rattle.std.proofs.Common.{take}
use Rattle.plir_core.specs.ContextView.{ContextView}
use Rattle.plir_core.specs.WellFormed.{IsWellFormed}
use Rattle.plir_read_ir.specs.Linking.{IsLinked, KeepsShape, LinksUses}
use Rattle.plir_read_ir.specs.Noting.{AreNew}
use Rattle.plir_read_ir.proofs.linking.link_uses.Given as goal

abbrev pub invariant-uses : goal.invariant-uses
invariant-uses g l =
    record {
      shape : KeepsShape l.initial.ctx l.ctx;
      linked : (first : ContextView g.row.D-Kind.Denot g.row.D-Attr.Denot g.row.D-Ty.Denot) → AreNew first l.notes →
          IsLinked first l.initial.ctx l.ctx;
      meant : LinksUses l.notes l.initial.ctx l.ctx (take l.pending-index l.pending-items);
      whole : IsWellFormed g.D.OpSet.attr_handles l.ctx;
    }
