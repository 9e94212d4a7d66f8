use Rattle.plir_core.proofs.uses.counts.UseCounts.forget.Goals as goal
use Rattle.plir_core.proofs.Counted.{Counts-freed_op}

pub returns-in-Operation : goal.returns-in-Operation
returns-in-Operation g c = λ k.
    Counts-freed_op c.args.self.now c.lower_op.new.self c.args.nodes.now k c.args.node c.in-Operation.op c.op.result.now
    c.in-Operation.is c.op.ensures c.lower_op.ensures
