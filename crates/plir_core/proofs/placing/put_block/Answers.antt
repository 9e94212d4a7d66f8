use Rattle.std.proofs.Common.{refl, sym, subst}
use Rattle.plir_core.specs.Points.{CanBePut}
use Rattle.plir_core.specs.declared.ptr.IRNode.TheVariants.{Region, BasicBlock}
use Rattle.plir_core.proofs.placing.put_block.Goals as goal
use Rattle.plir_core.proofs.Counted.{Counts-linked}
use Rattle.plir_core.proofs.Holds.{block_linked}
use Rattle.plir_core.proofs.Linking.{block_put_there}
use Rattle.plir_core.proofs.Seen.{nodes_seen}

pub put_block-requires : goal.put_block-requires
put_block-requires g c =
    subst (λ z. CanBePut z Region BasicBlock c.args.block c.args.at) (sym (nodes_seen c.ctx.view_is)) c.requires

pub invariant_of-ctx : goal.invariant_of-ctx
invariant_of-ctx g c = record {
  whole = block_linked _ _ c.ctx.invariant.whole _ _ c.put_block.ensures.after c.put_block.ensures.stored;
  counted = Counts-linked _ c.ctx.inside.nodes _ _ c.put_block.ensures.after refl c.ctx.invariant.counted;
}

pub returns-clause-placed : goal.returns-clause-placed
returns-clause-placed g c = block_put_there _ _ (nodes_seen c.ctx.view_is) c.ctx.invariant.whole.stored
    c.put_block.new.self c.args.block c.args.at c.requires c.put_block.ensures.after

pub returns-clause-whole : goal.returns-clause-whole
returns-clause-whole g c = (invariant_of-ctx g c).whole
