use Rattle.plir_passes.proofs.Needing.{needed-grown}
use Rattle.plir_passes.proofs.reaching.put_needed.Goals as goal

pub returns : goal.returns
returns g c =
    needed-grown g.D.OpSet.is_terminator c.args.ctx.now c.args.under.now c.args.op c.requires.inner c.args.reached.now
    c.put_operands.new.reached c.put_successors.new.reached c.put_over.new.reached c.put_ends.new.reached
    c.in_ok-put_operands.ensures c.in_ok-put_successors.ensures c.in_ok-put_over.ensures c.in_ok-put_ends.ensures
