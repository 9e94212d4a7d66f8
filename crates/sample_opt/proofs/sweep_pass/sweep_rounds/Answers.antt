use Rattle.std.proofs.Common.{◌≡◌, suc, ◌+◌, arith, refl, subst, sym}
use Rattle.plir_core.specs.declared.ptr.IRNode.TheVariants.{Operation}
use Rattle.sample_opt.specs.Rounds.{AreSwept}
use Rattle.sample_opt.proofs.sweep_pass.sweep_rounds.Goals as goal

pub loop-init : goal.loop-init
loop-init g c = (c.requires, refl, c.erasures_thin.ensures.none c.args.ctx.now c.stands.ensures.standing.forest)

pub loop-preserved : goal.loop-preserved
loop-preserved g c =
    let next : c.loop.counter + 1 ≡ suc c.loop.counter = omega arith in (
      c.lawful_changes.ensures.stays c.loop.ctx c.sweep.new.ctx (Operation c.args.root) c.sweep.ensures.swept.forest
          c.sweep.ensures.swept.lawful c.loop.invariant.0,
      subst (λ k. AreSwept g.D.EffectSet.has_effect g.D.OpSet.is_terminator (Operation c.args.root) k c.args.ctx.now
          c.sweep.new.ctx) (sym next) (c.loop.ctx, c.loop.invariant.1, c.sweep.ensures.swept),
      c.erasures_thin.ensures.both c.args.ctx.now c.loop.ctx c.sweep.new.ctx c.loop.invariant.2
          c.sweep.ensures.swept.thinned.thinned,
    )

pub returns-clause-end : goal.returns-clause-end
returns-clause-end g c =
    c.end_of_erasures.ensures.end c.args.ctx.now (sym c.num_live-live_before.ensures.value) c.loop.invariant.2

pub returns-then-is_err-clause-live : goal.returns-then-is_err-clause-live
returns-then-is_err-clause-live g c =
    c.lawful_changes.ensures.stays c.loop.ctx c.sweep.new.ctx (Operation c.args.root) c.sweep.ensures.swept.forest
    c.sweep.ensures.swept.lawful c.loop.invariant.0
