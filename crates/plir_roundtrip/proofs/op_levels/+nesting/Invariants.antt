use Rattle.std.proofs.Common.{◌≡◌, ◌↔◌, ◌+◌, ◌*◌, ◌-◌, ◌<◌, length, drop}
use Rattle.std.specs.Prelude.{option_map, slice_get}
use Rattle.plir_core.specs.ContextView.{children}
use Rattle.plir_core.specs.declared.ptr.IRNode.TheVariants.{Operation, Region, BasicBlock}
use Rattle.plir_roundtrip.specs.WrittenLevels.{nested_blocks, nested_ops, nested_regions}
use Rattle.plir_roundtrip.proofs.op_levels.+nesting.Given as goal

abbrev pub decreases-is_op_within : goal.decreases-is_op_within
decreases-is_op_within g l = 5 * l.left + 4

abbrev pub decreases-are_regions_below : goal.decreases-are_regions_below
decreases-are_regions_below g l = 5 * l.left + 3

abbrev pub decreases-are_blocks_below : goal.decreases-are_blocks_below
decreases-are_blocks_below g l = 5 * l.left + 2

abbrev pub decreases-is_block_below : goal.decreases-is_block_below
decreases-is_block_below g l = 5 * l.left + 1

abbrev pub decreases-are_ops_below : goal.decreases-are_ops_below
decreases-are_ops_below g l = 5 * l.left

abbrev pub decreases-are_regions_below-regions : goal.decreases-are_regions_below-regions
decreases-are_regions_below-regions g l = length (children l.ctx (Operation l.fn.op)) - l.place

abbrev pub decreases-are_blocks_below-inner : goal.decreases-are_blocks_below-inner
decreases-are_blocks_below-inner g l = length (children l.ctx (Region l.fn.region)) - l.place

abbrev pub decreases-are_ops_below-ops : goal.decreases-are_ops_below-ops
decreases-are_ops_below-ops g l = length (children l.ctx (BasicBlock l.fn.block)) - l.place

abbrev pub invariant-are_regions_below-regions : goal.invariant-are_regions_below-regions
invariant-are_regions_below-regions g l =
    let ks = children l.ctx (Operation l.fn.op) in
    record {
      at : option_map Region l.next ≡ slice_get ks l.place;
      low : (nested_regions g.D.OpSet l.ctx (drop l.place ks) < l.left) ↔ (nested_regions g.D.OpSet l.ctx ks < l.left);
    }

abbrev pub invariant-are_blocks_below-inner : goal.invariant-are_blocks_below-inner
invariant-are_blocks_below-inner g l =
    let ks = children l.ctx (Region l.fn.region) in
    record {
      at : option_map BasicBlock l.next ≡ slice_get ks l.place;
      low : (nested_blocks g.D.OpSet l.ctx (drop l.place ks) < l.left) ↔ (nested_blocks g.D.OpSet l.ctx ks < l.left);
    }

abbrev pub invariant-are_ops_below-ops : goal.invariant-are_ops_below-ops
invariant-are_ops_below-ops g l =
    let ks = children l.ctx (BasicBlock l.fn.block) in
    record {
      at : option_map Operation l.next ≡ slice_get ks l.place;
      low : (nested_ops g.D.OpSet l.ctx (drop l.place ks) < l.left) ↔ (nested_ops g.D.OpSet l.ctx ks < l.left);
    }
