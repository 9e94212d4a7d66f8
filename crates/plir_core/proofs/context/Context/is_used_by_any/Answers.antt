use Rattle.std.proofs.Common.{ap, refl, length, arith}
use borrow.Author.Count.{below_none, below_more}
use Rattle.plir_core.specs.ContextView.{ContextView}
use Rattle.plir_core.specs.ValueUses.{IsOperandAt}
use Rattle.plir_core.proofs.ValueUses.{HasUses-at, HasUses-none}
use Rattle.plir_core.proofs.context.Context.is_used_by_any.Goals as goal

pub loop-slot-init : goal.loop-slot-init
loop-slot-init g c = below_none (λ k. IsOperandAt c.args.self.now c.args.value k → ⊥)

pub loop-slot-preserved : goal.loop-slot-preserved
loop-slot-preserved g c =
    below_more (λ k. IsOperandAt c.args.self.now c.args.value k → ⊥) c.loop-slot.slot c.loop-slot.invariant
    (λ o. let t = c.is_operand_in_slot.ensures.1 o in let f : ⊥ = cc in f)

pub returns-then-is_operand_in_slot : goal.returns-then-is_operand_in_slot
returns-then-is_operand_in_slot g c = (
  λ t. HasUses-at c.args.self.now c.args.value c.loop-slot.slot (c.is_operand_in_slot.ensures.0
      c.if-is_operand_in_slot.true),
  λ h. refl,
)

pub returns : goal.returns
returns g c = (
  λ t. absurd (let f : ⊥ = cc in f),
  λ h. absurd (HasUses-none c.args.self.now c.args.value c.loop-slot.slot c.loop-slot.invariant
      (let same = ap (λ (z : ContextView g.row.D-Kind.Denot g.row.D-Attr.Denot g.row.D-Ty.Denot). length
      z.nodes.ops.slots) c.self.view_is in omega (arith, same, c.num_op_slots-slot-end.ensures)) h),
)
