use Rattle.std.proofs.Common.{◌≡◌, true}
use Rattle.plir_store.specs.MemberLaws.{Has-at}
use Rattle.plir_core.specs.ContextView.{kind_of}
use Rattle.plir_passes.specs.Legal.{is_kind}
use Rattle.plir_passes.specs.Marked.{ops_of}
use Rattle.plir_passes.specs.Reached.{acts}
use Rattle.plir_passes.proofs.Marking.{each-next}
use Rattle.plir_passes.proofs.reaching.put_all_acting.Goals as goal

pub put_acting-requires : goal.put_acting-requires
put_acting-requires g c =
    c.requires c.at.result (Has-at (ops_of c.args.under.now) c.loop-place.place c.at.result c.at.ensures)

pub loop-place-preserved : goal.loop-place-preserved
loop-place-preserved g c =
    each-next (λ p q. (q ≡ p) × (is_kind (acts g.D.EffectSet.has_effect) (kind_of c.args.ctx.now p) ≡ true))
    (ops_of c.args.under.now) c.loop-place.place c.at.result c.args.reached.now c.loop-place.reached
    c.put_acting.new.reached c.at.ensures c.loop-place.invariant c.in_ok-put_acting.ensures
