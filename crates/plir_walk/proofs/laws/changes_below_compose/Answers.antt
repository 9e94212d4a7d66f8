use Rattle.plir_walk.proofs.ChangedSoFar.{changed-begun, changed-lawful, changed-made, changed-refused, changed-region}
use Rattle.plir_walk.proofs.ChangedSoFar.{changed-unlinked, changed-placed, changed-erased, changed-op-edit}
use Rattle.plir_walk.proofs.ChangedSoFar.{changed-block-edit, changed-seen, unlinked-under}
use Rattle.plir_walk.proofs.Lawfulness.{kept-seen}
use Rattle.plir_walk.proofs.laws.changes_below_compose.Goals as goal
use Rattle.plir_core.specs.Forest.{look}

pub returns : goal.returns
returns g c = record {
  begun = λ s n w. changed-begun (look s) n;
  lawful = λ s t n w w' e. changed-lawful (look s) (look t) n w e w';
  made = λ s t u n x e m. changed-made s t u n e x m;
  refused = λ s t u n e r given. changed-refused s t u n e r given;
  region = λ s t u n o x e b r. changed-region s t u n e o x b r;
  unlinked = λ s t u n x w w' e b l. changed-unlinked s t u n e x w w' b l;
  unlinked_under = λ s t x m e h. unlinked-under s t x m e h;
  placed = λ s t u n x over ks e b o p. changed-placed s t u n e x over ks b o p;
  erased = λ s t u n x w w' e b r. changed-erased s t u n e x w w' b r;
  rewired = λ s t u n v x e r. changed-seen s t n e u (kept-seen t u r.keeps);
  op_edit = λ s t n p f e. changed-op-edit s t n e p f;
  block_edit = λ s t n p f e. changed-block-edit s t n e p f;
}
