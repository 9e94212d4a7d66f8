use Rattle.plir_core.specs.declared.ptr.IRNode.TheVariants.{Operation}
use Rattle.plir_read.specs.laws.Kept.{KeepsLive-itself}
use Rattle.plir_read_ir.specs.Mentions.{labels_in, nowhere, op_mentions, values_in}
use Rattle.plir_read_ir.proofs.IrTold.{use_met}
use Rattle.plir_read_ir.proofs.Links.{whole_linked}
use Rattle.plir_read_ir.proofs.Noted.{none_new}
use Rattle.plir_read_ir.proofs.Says.{says_labels, says_values}
use Rattle.plir_read_ir.proofs.Unmeant.{text_fails}
use Rattle.plir_read_ir.proofs.Shapes.{linked_in_order, linked_made, linked_reading}
use Rattle.plir_read_ir.proofs.reader.read_and_link.Goals as goal

pub link_uses-requires : goal.link_uses-requires
link_uses-requires g c = c.in-Ok.ensures.noted.ready c.requires.ready

pub returns-in-Ok-link_uses-clause-made : goal.returns-in-Ok-link_uses-clause-made
returns-in-Ok-link_uses-clause-made g c =
    let h = c.in-Ok.ensures in
    let new = h.noted.fresh c.args.ctx.now (KeepsLive-itself _) (none_new c.args.ctx.now c.args.notes.now c.requires.none) in
    linked_made c.args.ctx.now c.read_noted.new.ctx c.link_uses.new.ctx
    (c.in-Ok-link_uses.ensures.linked c.args.ctx.now new) (Operation c.in-Ok.op) h.made

pub returns-in-Ok-link_uses-clause-slots : goal.returns-in-Ok-link_uses-clause-slots
returns-in-Ok-link_uses-clause-slots g c =
    let h = c.in-Ok.ensures in
    let new = h.noted.fresh c.args.ctx.now (KeepsLive-itself _) (none_new c.args.ctx.now c.args.notes.now c.requires.none) in
    linked_in_order c.args.ctx.now c.read_noted.new.ctx c.link_uses.new.ctx
    (c.in-Ok-link_uses.ensures.linked c.args.ctx.now new) (Operation c.in-Ok.op) h.slots

pub returns-in-Ok-link_uses-clause-kept : goal.returns-in-Ok-link_uses-clause-kept
returns-in-Ok-link_uses-clause-kept g c =
    let h = c.in-Ok.ensures in
    let new = h.noted.fresh c.args.ctx.now (KeepsLive-itself _) (none_new c.args.ctx.now c.args.notes.now c.requires.none) in
    linked_reading c.args.ctx.now c.read_noted.new.ctx c.link_uses.new.ctx
    (c.in-Ok-link_uses.ensures.linked c.args.ctx.now new) _ h.kept

pub returns-in-Ok-link_uses-clause-stands : goal.returns-in-Ok-link_uses-clause-stands
returns-in-Ok-link_uses-clause-stands g c =
    let h = c.in-Ok.ensures in
    let new = h.noted.fresh c.args.ctx.now (KeepsLive-itself _) (none_new c.args.ctx.now c.args.notes.now c.requires.none) in
    let r = h.stands c.requires.ready in
    let l = c.in-Ok-link_uses.ensures in
    let ms = op_mentions g.D.ReadSet.is_isolated c.read_noted.new.ctx nowhere (Operation c.in-Ok.op) r.op in (
      r.op,
      r.text,
      whole_linked g.D.ReadSet.is_isolated c.read_noted.new.ctx c.link_uses.new.ctx c.read_noted.new.notes.uses.items
          (Operation c.in-Ok.op) r.op (l.linked c.args.ctx.now new).shape (c.contexts_stand.ensures _ h.whole) h.made.root
          (l.meant (values_in ms) (labels_in ms)
          (says_values c.args.notes.now.values c.read_noted.new.notes.values (values_in ms) c.requires.no_value
          r.noted.values)
          (says_labels c.args.notes.now.labels c.read_noted.new.notes.labels (labels_in ms) c.requires.no_label
          r.noted.labels)) r.stands,
    )

pub returns-in-Err-link_uses-clause-kept : goal.returns-in-Err-link_uses-clause-kept
returns-in-Err-link_uses-clause-kept g c =
    let h = c.in-Ok.ensures in
    let new = h.noted.fresh c.args.ctx.now (KeepsLive-itself _) (none_new c.args.ctx.now c.args.notes.now c.requires.none) in
    linked_reading c.args.ctx.now c.read_noted.new.ctx c.link_uses.new.ctx
    (c.in-Err-link_uses.ensures.linked c.args.ctx.now new) _ h.kept

pub returns-in-Err-link_uses-clause-unmeant : goal.returns-in-Err-link_uses-clause-unmeant
returns-in-Err-link_uses-clause-unmeant g c =
    let h = c.in-Ok.ensures in
    let new = h.noted.fresh c.args.ctx.now (KeepsLive-itself _) (none_new c.args.ctx.now c.args.notes.now c.requires.none) in
    let l = c.in-Err-link_uses.ensures in
    text_fails g.D.ReadSet.find_kind g.D.ReadSet.is_isolated 200 c.args.bytes.now c.args.ctx.now c.read_noted.new.ctx
    c.link_uses.new.ctx c.args.notes.now c.read_noted.new.notes (Operation c.in-Ok.op) (h.stands c.requires.ready)
    (l.linked c.args.ctx.now new).shape (c.contexts_stand.ensures _ h.whole) h.made.root c.requires.none
    c.requires.no_value c.requires.no_label c.in-Err-link_uses.stop l.unmeant

pub returns-in-Err-link_uses-clause-met : goal.returns-in-Err-link_uses-clause-met
returns-in-Err-link_uses-clause-met g c =
    use_met g.D.ReadSet.find_kind 200 c.args.bytes.now c.in-Err-link_uses.stop c.in-Err-link_uses.ensures.told
