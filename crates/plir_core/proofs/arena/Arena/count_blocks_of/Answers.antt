use Rattle.std.proofs.Common.{arith}
use Rattle.plir_core.specs.Erase.{tree_of}
use Rattle.plir_core.specs.declared.ptr.Ptr.{Ptr}
use Rattle.plir_core.specs.declared.ptr.BasicBlock.{BasicBlock as BasicBlockKind}
use Rattle.plir_core.specs.declared.ptr.IRNode.TheVariants.{BasicBlock}
use Rattle.plir_core.proofs.TreeUses.{hits-start, hits-all, block-more}
use Rattle.plir_core.proofs.arena.Arena.count_blocks_of.Goals as goal

pub loop-block-init : goal.loop-block-init
loop-block-init g c = record {
  counted = hits-start (λ (b : Ptr BasicBlockKind). BasicBlock b) c.args.blocks.now
      (tree_of c.args.self.now c.args.root);
  fits = omega arith;
}

pub loop-block-preserved : goal.loop-block-preserved
loop-block-preserved g c = record {
  counted = block-more c.args.self.now c.args.root c.args.blocks.now c.loop-block.block-index _ c.loop-block.count
      c.num_places-count.result c.loop-block-test.true c.loop-block.invariant.counted c.num_places-count.ensures.places;
  fits = let one = c.num_places-count.ensures.once in let fits = c.loop-block.invariant.fits in omega arith;
}

pub returns : goal.returns
returns g c = hits-all (λ (b : Ptr BasicBlockKind). BasicBlock b) c.args.blocks.now
    (tree_of c.args.self.now c.args.root) c.loop-block.block-index c.loop-block.count c.loop-block-test.false
    c.loop-block.invariant.counted
