use Rattle.std.proofs.Common.{refl}
use Rattle.plir_core.proofs.placing.Ptr+Operation.unlink.Goals as goal
use Rattle.plir_core.proofs.Counted.{Counts-linked}
use Rattle.plir_core.proofs.Holds.{op_linked}
use Rattle.plir_core.proofs.Linking.{op_alone}
use Rattle.plir_core.proofs.Seen.{nodes_seen}

pub invariant_of-ctx : goal.invariant_of-ctx
invariant_of-ctx g c = record {
  whole = op_linked _ _ c.ctx.invariant.whole _ _ c.unlink_op.ensures.after c.unlink_op.ensures.stored;
  counted = Counts-linked _ c.ctx.inside.nodes _ _ c.unlink_op.ensures.after refl c.ctx.invariant.counted;
}

pub returns-clause-whole : goal.returns-clause-whole
returns-clause-whole g c = (invariant_of-ctx g c).whole

pub returns-clause-unlinked : goal.returns-clause-unlinked
returns-clause-unlinked g c = op_alone _ _ (nodes_seen c.ctx.view_is) c.ctx.invariant.whole.stored
    c.unlink_op.new.self c.args.self c.requires c.unlink_op.ensures.after
