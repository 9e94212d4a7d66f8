use Rattle.plir_flow.proofs.Popping.{still-below, not-empty, value-back, segments-back, sizes-back, operands-back}
use Rattle.plir_flow.proofs.laws.push_then_pop.Goals as goal

pub returns-clause-filled : goal.returns-clause-filled
returns-clause-filled g c =
    λ s t op seg v p.
    (still-below s t op seg v p.segmented p.below p.edited, not-empty s t op seg v p.segmented p.below p.edited)

pub returns-clause-back : goal.returns-clause-back
returns-clause-back g c = λ s t u op seg v w p q. (
  value-back s t op seg v p.segmented p.below p.edited w q.value,
  record {
    segments = segments-back s t op seg v p.segmented p.below p.edited u q.edited;
    sizes = sizes-back s t op seg v p.segmented p.below p.edited u q.edited;
    operands = operands-back s t op seg v p.segmented p.below p.edited u q.edited;
  },
)
