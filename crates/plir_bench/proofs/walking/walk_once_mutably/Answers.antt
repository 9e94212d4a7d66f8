use Rattle.std.proofs.Common.{sym, subst, ◌∙◌}
use Rattle.plir_core.specs.Forest.{look}
use Rattle.plir_walk.specs.Lawful.{Lawful}
use Rattle.plir_bench.proofs.walking.walk_once_mutably.Goals as goal

pub walk_op-requires-clause-lawful : goal.walk_op-requires-clause-lawful
walk_op-requires-clause-lawful c = λ d t n a d' t' p.
    subst (λ z. Lawful (look d) n (look z)) (sym p.made.1.shows.0 ∙ sym p.made.1.met.1 ∙ p.made.1.leaves.0)
    (c.lawful_changes.ensures.none d n)
