-- How a setting takes each node.
use Rattle.std.specs.Prelude.{◌≡◌}
use Rattle.plir_core.specs.declared.ptr.IRNode.{IRNode}
use Rattle.plir_core.specs.declared.ptr.IRNode.TheVariants.{Operation, BasicBlock, Region}
use Rattle.plir_walk.specs.declared.config.Order.{Order}
use Rattle.plir_walk.specs.declared.config.Order.TheVariants.{PreOrder, PostOrder}
use Rattle.plir_walk.specs.declared.config.Direction.{Direction}
use Rattle.plir_walk.specs.declared.config.WalkConfig.{WalkConfig}

-- the pair that a setting has for a node's kind
abbrev pub pair_of : WalkConfig → IRNode → Order × Direction
pair_of w (Operation p) = w.regions_in_op
pair_of w (BasicBlock p) = w.ops_in_block
pair_of w (Region p) = w.blocks_in_region

-- whether a node is called before what is below it, or after
abbrev pub order_of : WalkConfig → IRNode → Order
order_of w n = (pair_of w n).0

-- how the children of a node are taken
abbrev pub direction_of : WalkConfig → IRNode → Direction
direction_of w n = (pair_of w n).1

-- all levels are PreOrder
abbrev pub AllPre : WalkConfig → Type 0
AllPre w = (w.regions_in_op.0 ≡ PreOrder) × (w.ops_in_block.0 ≡ PreOrder) × (w.blocks_in_region.0 ≡ PreOrder)

-- all levels are PostOrder
abbrev pub AllPost : WalkConfig → Type 0
AllPost w = (w.regions_in_op.0 ≡ PostOrder) × (w.ops_in_block.0 ≡ PostOrder) × (w.blocks_in_region.0 ≡ PostOrder)
