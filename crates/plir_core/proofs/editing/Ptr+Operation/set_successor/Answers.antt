use Rattle.plir_core.proofs.editing.Ptr+Operation.set_successor.Goals as goal
use Rattle.plir_core.proofs.Counted.{Counts-redirected, successor_there}
use Rattle.plir_core.proofs.Edited.{held_as, successor_replaced}

pub invariant_of-ctx : goal.invariant_of-ctx
invariant_of-ctx g c =
    let held = held_as c.op_mut.ensures.value c.behind-ctx.view_is in
    record {
      whole = successor_replaced _ _ _ c.ctx.view_is c.ctx.invariant.whole c.args.self.slot c.args.i _ c.args.block _
          held c.set.ensures c.requires.block_live;
      counted = Counts-redirected c.ctx.inside.uses _ _ c.ctx.inside.nodes.ops _ c.args.i _ c.args.block
          c.get_successor-replaced.result _ held
          (successor_there _ _ c.ctx.view_is c.args.self c.args.i _ held _ c.get_successor-replaced.ensures.value)
          c.set.ensures c.ctx.invariant.counted c.raise_block.ensures c.lower.ensures;
    }

pub returns-clause-whole : goal.returns-clause-whole
returns-clause-whole g c = (invariant_of-ctx g c).whole
