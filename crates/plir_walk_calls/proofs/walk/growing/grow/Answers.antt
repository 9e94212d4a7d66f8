use Rattle.std.proofs.Common.{sym, subst, inl, inr}
use Rattle.plir_walk_calls.proofs.walk.growing.grow.Goals as goal
use Rattle.plir_core.specs.Forest.{IsForest, look}
use Rattle.plir_walk.specs.Lawful.{Lawful}

pub walk_op-requires-clause-lawful : goal.walk_op-requires-clause-lawful
walk_op-requires-clause-lawful g c = λ d t n a d' t' p.
    let law = c.lawful_changes.ensures in
    let s = p.made.context.now in
    let s' = p.made.context_left.now in
    let forest : IsForest (look s) = subst (λ z. IsForest (look z)) (sym p.made.shows.0) p.stands.forest in
    let lawful : Lawful (look s) n (look s') = elim p.made.met.1 [
      | inl same ↦ subst (λ z. Lawful (look s) n (look z)) (sym same) (law.none s n)
      | inr added ↦ law.region s s' n added.0 forest added.1
    ] in
    subst (λ z. Lawful (look z) n (look d')) p.made.shows.0 (subst (λ z. Lawful (look s) n (look z)) p.made.leaves.0
    lawful)
