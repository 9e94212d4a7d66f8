use Rattle.std.proofs.lemmas.Option.{none-some}
use Rattle.plir_copies.proofs.Images.{live-value, live-block}
use Rattle.plir_copies.proofs.Keeping.{images-keep}
use Rattle.plir_copies.proofs.liveness.images_stay_live.Goals as goal

pub returns-clause-none : goal.returns-clause-none
returns-clause-none g c = λ s. record {
  values = λ v w e. absurd (none-some w e);
  blocks = λ a b e. absurd (none-some b e);
}

pub returns-clause-value : goal.returns-clause-value
returns-clause-value g c = λ s m v w h l. live-value s m h v w l

pub returns-clause-block : goal.returns-clause-block
returns-clause-block g c = λ s m a b h l. live-block s m h a b l

pub returns-clause-kept : goal.returns-clause-kept
returns-clause-kept g c = λ s t m k h. images-keep s t m k h
