use Rattle.plir_core.specs.declared.ptr.IRNode.TheVariants.{BasicBlock}
use Rattle.plir_walk_calls.proofs.copies.copying.copy_block.Goals as goal

pub put_arguments-requires : goal.put_arguments-requires
put_arguments-requires g c = c.in_ok-copy.ensures.made.keeps.live (BasicBlock c.args.block) c.requires.live
