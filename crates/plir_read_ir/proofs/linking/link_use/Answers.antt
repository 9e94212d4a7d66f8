use Rattle.std.proofs.Common.{IfErr, OnOk, inl, length, refl, subst, sym}
use Rattle.plir_core.specs.ContextView.{successors_of}
use Rattle.plir_read_ir.specs.Linking.{FailsUse, LinksUse}
use Rattle.plir_read_ir.specs.Noting.{IsPlaceOf}
use Rattle.plir_read_ir.specs.Readings.{noted_as}
use Rattle.plir_read_ir.proofs.Shapes.{IsLinkedAt-itself}
use Rattle.plir_read_ir.specs.declared.fault.IrFault.TheVariants as IrFault
use Rattle.plir_read_ir.specs.declared.fault.IrStop.TheVariants as IrStop
use Rattle.plir_read_ir.proofs.linking.link_use.Goals as goal

pub link_successor-requires-clause-below : goal.link_successor-requires-clause-below
link_successor-requires-clause-below g c =
    subst (IsPlaceOf (length (successors_of c.args.ctx.now c.args.pending.now.op))) c.in-Successor.is
    c.requires.pending.place

pub returns-in-Nothing-clause-linked : goal.returns-in-Nothing-clause-linked
returns-in-Nothing-clause-linked g c = IsLinkedAt-itself _ _

pub returns-in-Operand-clause-meant : goal.returns-in-Operand-clause-meant
returns-in-Operand-clause-meant g c =
    subst (λ w. OnOk c.link_operand.result (LinksUse c.args.notes.now c.args.ctx.now c.link_operand.new.ctx
    c.args.pending.now.op (noted_as c.args.pending.now.name.word.now w))) (sym c.in-Operand.is)
    c.link_operand.ensures.meant

pub returns-in-Successor-clause-meant : goal.returns-in-Successor-clause-meant
returns-in-Successor-clause-meant g c =
    subst (λ w. OnOk c.link_successor.result (LinksUse c.args.notes.now c.args.ctx.now c.link_successor.new.ctx
    c.args.pending.now.op (noted_as c.args.pending.now.name.word.now w))) (sym c.in-Successor.is)
    c.link_successor.ensures.meant

pub returns-in-Operand-clause-unmeant : goal.returns-in-Operand-clause-unmeant
returns-in-Operand-clause-unmeant g c =
    subst (λ w. IfErr c.link_operand.result (FailsUse c.args.notes.now c.args.ctx.now
    (noted_as c.args.pending.now.name.word.now w))) (sym c.in-Operand.is) c.link_operand.ensures.unmeant

pub returns-in-Successor-clause-unmeant : goal.returns-in-Successor-clause-unmeant
returns-in-Successor-clause-unmeant g c =
    subst (λ w. IfErr c.link_successor.result (FailsUse c.args.notes.now c.args.ctx.now
    (noted_as c.args.pending.now.name.word.now w))) (sym c.in-Successor.is) c.link_successor.ensures.unmeant

pub returns-in-Nothing-clause-unmeant : goal.returns-in-Nothing-clause-unmeant
returns-in-Nothing-clause-unmeant g c =
    subst (λ w. FailsUse c.args.notes.now c.args.ctx.now (noted_as c.args.pending.now.name.word.now w)
    (IrStop.Use IrFault.UnknownName c.args.pending.now.name.left)) (sym c.in-Nothing.is) (λ values labels a b. inl refl)
