use Rattle.plir_inliner.proofs.Climbing.{falls, there}
use Rattle.plir_inliner.proofs.order.function_above.Goals as goal

pub up-init : goal.up-init
up-init g c = there c.args.ctx.now c.get_parent_op-first.result c.get_parent_op-first.ensures.live

pub get_parent_op-at-requires : goal.get_parent_op-at-requires
get_parent_op-at-requires g c = c.up.invariant c.in-Some.above c.in-Some.is

pub is_function-requires : goal.is_function-requires
is_function-requires g c = c.up.invariant c.in-Some.above c.in-Some.is

pub up-preserved : goal.up-preserved
up-preserved g c = there c.args.ctx.now c.get_parent_op-at.result c.get_parent_op-at.ensures.live

pub up-smaller : goal.up-smaller
up-smaller g c =
    falls c.args.ctx.now c.stands.ensures.standing.measured c.up.at c.in-Some.above c.in-Some.is
    c.get_parent_op-at.result c.get_parent_op-at.ensures.value
