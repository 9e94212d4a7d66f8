use Rattle.plir_core.specs.declared.ptr.IRNode.TheVariants.{Operation}
use Rattle.plir_walk.specs.Calls.{ReadsBack}
use Rattle.plir_walk.proofs.Orders.{once}
use Rattle.plir_walk.proofs.laws.walks_each_node_once.Goals as goal

pub returns : goal.returns
returns g c = once g.C.NodeLinks.look c.args.config.now (ReadsBack g.F.Fn c.args.callback) c.args.ctx.now
    c.args.state.now (Operation c.args.root) c.walk_op.new.state c.walk_op.ensures
