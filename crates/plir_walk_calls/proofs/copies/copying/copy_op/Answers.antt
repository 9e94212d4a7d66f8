use Rattle.plir_core.specs.declared.ptr.IRNode.TheVariants.{Operation}
use Rattle.plir_walk_calls.proofs.copies.copying.copy_op.Goals as goal

pub put_results-requires : goal.put_results-requires
put_results-requires g c = c.in_ok-copy.ensures.made.keeps.live (Operation c.args.op) c.requires.live
