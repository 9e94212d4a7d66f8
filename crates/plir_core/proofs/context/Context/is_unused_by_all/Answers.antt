use Rattle.std.proofs.Common.{refl, ap, length, arith}
use Rattle.plir_core.specs.ContextView.{ContextView}
use Rattle.plir_core.proofs.context.Context.is_unused_by_all.Goals as goal
use Rattle.plir_core.proofs.Scan.{IsUnusedBelow-none, IsUnusedBelow-more, IsUnusedBelow-all, true_unless}

pub loop-slot-init : goal.loop-slot-init
loop-slot-init g c = IsUnusedBelow-none c.args.self.now c.args.root

pub loop-slot-preserved : goal.loop-slot-preserved
loop-slot-preserved g c =
    IsUnusedBelow-more c.args.self.now c.args.root c.loop-slot.slot c.loop-slot.invariant
    (c.is_unused_in_slot.ensures.0 (true_unless c.is_unused_in_slot.result (λ no. let f : ⊥ = cc in f)))

pub returns : goal.returns
returns g c = (
  λ t. IsUnusedBelow-all c.args.self.now c.args.root c.loop-slot.slot
      (let same = ap (λ (z : ContextView g.row.D-Kind.Denot g.row.D-Attr.Denot g.row.D-Ty.Denot). length
      z.nodes.ops.slots) c.self.view_is in omega (arith, same, c.num_op_slots-slot-end.ensures))
      c.loop-slot.invariant,
  λ u. refl,
)
