use Rattle.std.proofs.lemmas.Bool.{false≢true}
use Rattle.plir_store.specs.FilterLaws.{not-both}
use Rattle.plir_inliner.specs.Plain.{MayStand}
use Rattle.plir_inliner.proofs.Stepping.{each-at, has-at, no-op}
use Rattle.plir_inliner.proofs.plain.may_all_stand.Goals as goal

pub may_stand-requires : goal.may_stand-requires
may_stand-requires g c = c.requires _ (has-at c.args.ops.now c.loop-op.op-index no-op c.loop-op-test.true)

pub returns-then-not-may_stand : goal.returns-then-not-may_stand
returns-then-not-may_stand g c = (
  λ yes. absurd (false≢true yes),
  λ all. absurd (not-both c.may_stand.result
      (c.may_stand.ensures.1 (all _ (has-at c.args.ops.now c.loop-op.op-index no-op c.loop-op-test.true)))
      c.if-not-may_stand.true),
)

pub loop-op-preserved : goal.loop-op-preserved
loop-op-preserved g c =
    each-at (MayStand g.D.OpSet.is_symbol g.D.CallSet.call g.D.CallSet.returned c.args.ctx.now c.args.last)
    c.args.ops.now c.loop-op.op-index no-op c.loop-op-test.true c.loop-op.invariant
    (c.may_stand.ensures.0 c.if-not-may_stand.false)
