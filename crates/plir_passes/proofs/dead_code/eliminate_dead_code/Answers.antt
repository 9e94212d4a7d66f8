use Rattle.plir_core.specs.declared.ptr.IRNode.TheVariants.{Operation}
use Rattle.plir_walk.specs.NodeLaws.{fewer-erased}
use Rattle.plir_passes.proofs.Pending.{sweeping-more, sweeping-start}
use Rattle.plir_passes.proofs.Sweeps.{swept-none}
use Rattle.plir_passes.proofs.dead_code.eliminate_dead_code.Goals as goal

pub returns-in_err-list-clause-swept : goal.returns-in_err-list-clause-swept
returns-in_err-list-clause-swept g c =
    swept-none g.D.EffectSet.has_effect g.D.OpSet.is_terminator c.args.ctx.now c.stands.ensures.standing.forest

pub dead-init : goal.dead-init
dead-init g c =
    sweeping-start g.D.EffectSet.has_effect g.D.OpSet.is_terminator c.args.ctx.now c.args.root c.in_ok-list.list
    c.stands.ensures.standing.forest (c.lawful_changes.ensures.none c.args.ctx.now (Operation c.args.root))
    c.in_ok-list.ensures

pub dead-smaller : goal.dead-smaller
dead-smaller g c =
    fewer-erased c.dead.ctx c.sweep_op.new.ctx (Operation c.in-Some.op) c.in_ok-sweep_op.ensures.tree

pub dead-preserved : goal.dead-preserved
dead-preserved g c =
    let done = c.in_ok-sweep_op.ensures in
    sweeping-more g.D.EffectSet.has_effect g.D.OpSet.is_terminator c.lawful_changes.ensures c.args.ctx.now c.dead.ctx
    c.sweep_op.new.ctx c.args.root c.in-Some.op c.dead.list c.next_dead.new.list c.sweep_op.new.list
    c.stands.ensures.standing.forest c.dead.invariant c.in-Some.ensures.next c.in-Some.ensures.listed done.used
    done.stands done.tree done.after done.thinned
