use Rattle.std.proofs.Common.{◌∙◌, ◌<◌, refl, ap, sym, subst, length, arith}
use Rattle.plir_store.specs.Table.{content_at}
use Rattle.plir_core.specs.Changes.{op_edited}
use Rattle.plir_core.specs.Replaced.{op_replaced, cell_replaced}
use Rattle.plir_core.specs.ContextView.{ContextView, IsValueLive}
use Rattle.plir_core.proofs.Rest.{unused_rest}
use Rattle.plir_core.proofs.ReplacedUses.{mapped-length, replaced-next, replaced-all, edited-live}
use Rattle.plir_core.proofs.uses.replacing.replace_in_all.Goals as goal

pub returns-then-is_known_without_uses : goal.returns-then-is_known_without_uses
returns-then-is_known_without_uses g c =
    sym (unused_rest c.args.ctx.now c.args.value c.args.other
    (c.is_known_without_uses.ensures c.if-is_known_without_uses.true))

pub loop-slot-init : goal.loop-slot-init
loop-slot-init g c = (refl, c.requires)

pub replace_in_slot-requires-clause-below : goal.replace_in_slot-requires-clause-below
replace_in_slot-requires-clause-below g c =
    let same = ap (λ (z : ContextView g.row.D-Kind.Denot g.row.D-Attr.Denot g.row.D-Ty.Denot). length z.nodes.ops.slots)
    c.ctx.view_is in
    let now = ap (λ (z : ContextView g.row.D-Kind.Denot g.row.D-Attr.Denot g.row.D-Ty.Denot). length z.nodes.ops.slots)
    c.loop-slot.invariant.0 in
    let kept = mapped-length (cell_replaced c.args.value c.args.other) c.args.ctx.now.nodes.ops.slots c.loop-slot.slot in
    omega (arith, same, now, kept, c.num_op_slots-slot-end.ensures, c.loop-slot-test.true)

pub loop-slot-preserved : goal.loop-slot-preserved
loop-slot-preserved g c =
    let same = ap (λ (z : ContextView g.row.D-Kind.Denot g.row.D-Attr.Denot g.row.D-Ty.Denot). length z.nodes.ops.slots)
    c.ctx.view_is in
    let below : c.loop-slot.slot < length c.args.ctx.now.nodes.ops.slots = omega
    (arith, same, c.num_op_slots-slot-end.ensures, c.loop-slot-test.true) in (
      c.replace_in_slot.ensures.after
          ∙ ap (λ (z : ContextView g.row.D-Kind.Denot g.row.D-Attr.Denot g.row.D-Ty.Denot). op_edited z c.loop-slot.slot
          (op_replaced c.args.value c.args.other) (content_at z.nodes.ops c.loop-slot.slot)) c.loop-slot.invariant.0
          ∙ replaced-next c.args.value c.args.other c.args.ctx.now c.loop-slot.slot below,
      subst (λ z. IsValueLive z c.args.other) (sym c.replace_in_slot.ensures.after)
          (edited-live c.loop-slot.ctx c.loop-slot.slot c.args.value c.args.other c.args.other c.loop-slot.invariant.1),
    )

pub returns : goal.returns
returns g c =
    let same = ap (λ (z : ContextView g.row.D-Kind.Denot g.row.D-Attr.Denot g.row.D-Ty.Denot). length z.nodes.ops.slots)
    c.ctx.view_is in
    c.loop-slot.invariant.0 ∙ replaced-all c.args.value c.args.other c.args.ctx.now c.loop-slot.slot
    (omega (arith, same, c.num_op_slots-slot-end.ensures, c.loop-slot-test.false))
