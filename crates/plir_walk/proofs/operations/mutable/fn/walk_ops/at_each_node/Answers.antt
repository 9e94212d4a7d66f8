use Rattle.std.proofs.Common.{sym, subst}
use Rattle.plir_walk.specs.CallLaws.{called-back}
use Rattle.plir_walk.specs.Calls.{CallsBack}
use Rattle.plir_walk.specs.OperationWalks.{AtEachNode}
use Rattle.plir_walk.proofs.operations.mutable.fn.walk_ops.at_each_node.Goals as goal

pub returns-in-Operation : goal.returns-in-Operation
returns-in-Operation g c =
    subst (λ n. AtEachNode (CallsBack g.F.Fn c.captures.callback) c.args.c.now c.args.s.now n c.callback.result
    c.callback.new.arg2 c.callback.new.arg3)
    (sym c.in-Operation.is) (called-back g.F.Fn c.captures.callback c.callback.ensures)
