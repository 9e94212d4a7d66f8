use Rattle.std.proofs.Common.{arith, ap, ◌∙◌}
use Rattle.plir_driver.proofs.Cutting.{joined_first, joined_next}
use Rattle.plir_driver.proofs.parts.joined.Goals.{then-place-gt0+in_ok-push, else-place-gt0}
use Rattle.plir_driver.proofs.parts.joined.Goals as goal

pub loop-place-preserved : goal.loop-place-preserved
loop-place-preserved c =
    elim c.if-place-gt0.branch [
      | then-place-gt0+in_ok-push w ↦
          joined_next c.args.lines.now c.loop-place.place _ c.loop-place.bytes.items c.if-place-gt0.bytes.items
          c.extend_from_slice.new.self.items (omega arith) c.loop-place.invariant w.if-place-gt0.true
          (ap (λ b. b.items) w.bytes-is ∙ w.in_ok-push.ensures.items) c.in_ok-extend_from_slice.ensures.items
      | else-place-gt0 w ↦
          joined_first c.args.lines.now c.loop-place.place _ c.loop-place.bytes.items c.if-place-gt0.bytes.items
          c.extend_from_slice.new.self.items (omega arith) c.loop-place.invariant w.if-place-gt0.false
          (ap (λ b. b.items) w.bytes-is) c.in_ok-extend_from_slice.ensures.items
    ]
