use Rattle.plir_core.specs.declared.ptr.IRNode.TheVariants.{Operation}
use Rattle.plir_walk.specs.ThinnedLaws.{kinds-both}
use Rattle.plir_walk.proofs.Thinning.{below-none, below-more}
use Rattle.plir_walk.proofs.laws.leaves_thin.Goals as goal

pub returns : goal.returns
returns g c = record {
  none = λ kinds n t w. below-none kinds n t w;
  more = λ kinds n r t p h here leaf of_kind after e.
      (let forest = (c.contexts_stand.ensures c.args.ctx.now c.stands.ensures.whole).forest in
      below-more kinds c.args.ctx.now t p forest (c.erasure_takes_one_child.ensures t (Operation p) e) leaf of_kind
      after e n r here h);
  both = λ kinds t u v f g. kinds-both kinds t u v f g;
}
