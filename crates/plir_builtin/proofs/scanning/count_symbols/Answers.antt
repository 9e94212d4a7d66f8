use Rattle.plir_builtin.proofs.CountLoop.{counting-start, counting-end, counting-live, counting-more, counting-falls}
use Rattle.plir_builtin.proofs.scanning.count_symbols.Goals as goal

pub ops-init : goal.ops-init
ops-init g c =
    counting-start g.D.OpSet.is_symbol c.args.ctx.now c.args.block c.get_head-at.result c.get_head-at.ensures.value
    c.first_child_is_front.ensures.front

pub count_op-count-requires : goal.count_op-count-requires
count_op-count-requires g c =
    counting-live g.D.OpSet.is_symbol c.args.ctx.now c.args.block c.stands.ensures.standing c.ops.at c.ops.count
    c.ops.invariant c.in-Some.op c.in-Some.is

pub get_next-at-requires : goal.get_next-at-requires
get_next-at-requires g c =
    counting-live g.D.OpSet.is_symbol c.args.ctx.now c.args.block c.stands.ensures.standing c.ops.at c.ops.count
    c.ops.invariant c.in-Some.op c.in-Some.is

pub ops-smaller : goal.ops-smaller
ops-smaller g c =
    counting-falls g.D.OpSet.is_symbol c.args.ctx.now c.args.block c.stands.ensures.standing c.ops.at c.ops.count
    c.ops.invariant c.in-Some.op c.in-Some.is c.get_next-at.result c.get_next-at.ensures.value c.next_is_behind.ensures

pub ops-preserved : goal.ops-preserved
ops-preserved g c =
    counting-more g.D.OpSet.is_symbol c.args.ctx.now c.args.block c.stands.ensures.standing c.ops.at c.ops.count
    c.ops.invariant c.in-Some.op c.in-Some.is c.get_next-at.result c.get_next-at.ensures.value c.next_is_behind.ensures
    c.count_op-count.result c.count_op-count.ensures

pub returns : goal.returns
returns g c =
    counting-end g.D.OpSet.is_symbol c.args.ctx.now c.args.block c.ops.at c.ops.count c.ops.invariant c.in_default.is
