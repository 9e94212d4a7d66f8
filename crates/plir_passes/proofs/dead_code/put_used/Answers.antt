use Rattle.std.proofs.Common.{arith}
use Rattle.plir_passes.proofs.Using.{using-start, using-next, using-end}
use Rattle.plir_passes.proofs.dead_code.put_used.Goals as goal

pub loop-place-init : goal.loop-place-init
loop-place-init g c = using-start c.args.ctx.now c.args.op c.args.list.now

pub loop-place-preserved : goal.loop-place-preserved
loop-place-preserved g c =
    using-next c.args.ctx.now c.args.op c.loop-place.place c.get_operand.result c.args.list.now c.loop-place.list
    c.put_definer.new.list c.get_operand.ensures.value c.loop-place.invariant c.in_ok-put_definer.ensures

pub returns : goal.returns
returns g c =
    using-end c.args.ctx.now c.args.op c.loop-place.place c.args.list.now c.loop-place.list (omega arith)
    c.loop-place.invariant
