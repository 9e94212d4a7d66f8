use Rattle.std.proofs.Common.{refl, sym, subst}
use Rattle.plir_core.specs.Points.{CanBePut}
use Rattle.plir_core.specs.declared.ptr.IRNode.TheVariants.{BasicBlock, Operation}
use Rattle.plir_core.proofs.placing.put_op.Goals as goal
use Rattle.plir_core.proofs.Counted.{Counts-linked}
use Rattle.plir_core.proofs.Holds.{op_linked}
use Rattle.plir_core.proofs.Linking.{op_put_there}
use Rattle.plir_core.proofs.Seen.{nodes_seen}

pub put_op-requires : goal.put_op-requires
put_op-requires g c =
    subst (λ z. CanBePut z BasicBlock Operation c.args.op c.args.at) (sym (nodes_seen c.ctx.view_is)) c.requires

pub invariant_of-ctx : goal.invariant_of-ctx
invariant_of-ctx g c = record {
  whole = op_linked _ _ c.ctx.invariant.whole _ _ c.put_op.ensures.after c.put_op.ensures.stored;
  counted = Counts-linked _ c.ctx.inside.nodes _ _ c.put_op.ensures.after refl c.ctx.invariant.counted;
}

pub returns-clause-placed : goal.returns-clause-placed
returns-clause-placed g c = op_put_there _ _ (nodes_seen c.ctx.view_is) c.ctx.invariant.whole.stored
    c.put_op.new.self c.args.op c.args.at c.requires c.put_op.ensures.after

pub returns-clause-whole : goal.returns-clause-whole
returns-clause-whole g c = (invariant_of-ctx g c).whole
