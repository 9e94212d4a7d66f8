use Rattle.plir_walk.proofs.Lawfulness.{lawful-none, lawful-then, lawful-stays, lawful-refused, lawful-placed}
use Rattle.plir_walk.proofs.Lawfulness.{lawful-region, lawful-erased, op-edit-lawful, block-edit-lawful, op-edit-shape}
use Rattle.plir_walk.proofs.Lawfulness.{block-edit-shape, kept-seen, lawful-seen, shape-seen}
use Rattle.plir_walk.specs.AdditionLaws.{new-before}
use Rattle.plir_walk.proofs.LawfulAbove.{lawful-above}
use Rattle.plir_walk.proofs.laws.lawful_changes.Goals as goal
use Rattle.plir_core.specs.Forest.{look}

pub returns : goal.returns
returns g c = record {
  forest = λ s w. (c.contexts_stand.ensures s w).forest;
  none = λ s n. lawful-none (look s) n;
  both = λ s t u n w f l. lawful-then (look s) (look t) (look u) n w f l;
  above = λ s t n r w w' live under l. lawful-above (look s) (look t) n r w w' live under l;
  stays = λ s t n w f l. lawful-stays (look s) (look t) n w f l;
  op_edit = λ s n p f. op-edit-lawful s p f n;
  block_edit = λ s n p f. block-edit-lawful s p f n;
  op_edit_shape = λ s p f. op-edit-shape s p f;
  block_edit_shape = λ s p f. block-edit-shape s p f;
  rewired = λ s t n v x e. lawful-seen s t n (kept-seen s t e.keeps);
  rewired_shape = λ s t v x e. shape-seen s t (kept-seen s t e.keeps);
  refused = λ s t n e given. lawful-refused s t n e given;
  placed = λ s t u n over x ks w under made placed. lawful-placed s t u n x over ks w under made placed;
  placed_before = λ s t u n over x mark w under here made placed.
      (let at = (new-before s t u x mark over w here made placed).placed in
      lawful-placed s t u n x over at.0 w under made at.1);
  region = λ s t n x w e. lawful-region s t n x w e;
  erased = λ s t n x b e. lawful-erased s t n x b e;
}
