use Rattle.plir_walk.specs.ThinnedLaws.{thinned-none, thinned-both}
use Rattle.plir_walk.proofs.Thinning.{thinned-erased}
use Rattle.plir_walk.proofs.laws.erasures_thin.Goals as goal

pub returns : goal.returns
returns g c = record {
  erased = λ t n e after. thinned-erased c.args.ctx.now t n (c.contexts_stand.ensures c.args.ctx.now
      c.stands.ensures.whole).forest (c.erasure_takes_one_child.ensures t n e) e after;
  none = λ t w. thinned-none t w;
  both = λ t u v f g. thinned-both t u v f g;
}
