use Rattle.plir_core.specs.declared.ptr.IRNode.TheVariants.{Operation}
use Rattle.plir_walk_calls.proofs.walk.pass.module_with_function.Goals as goal

pub returns : goal.returns
returns g c =
    let op = Operation c.in_ok-op.op in
    c.in_ok-append.ensures.kept op (c.in_ok-entry.ensures.kept op (c.in_ok-block.ensures.kept op
    c.in_ok-op.ensures.op_live))
