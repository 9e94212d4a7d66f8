use Rattle.std.specs.Prelude.{◌≡◌, ℕ, ◌<◌, Some, slice_get, option_map}
use Rattle.plir_core.specs.declared.ptr.IRNode.{IRNode}
use Rattle.plir_core.specs.declared.ptr.IRNode.TheVariants.{Region}
use Rattle.plir_iface.specs.Counts.{regions_of}
use Rattle.plir_iface.specs.Regions.{HasOneBlock}
use Rattle.plir_iface.proofs.blocks.has_single_blocks.Given as goal

-- the loop is at the region at its place, and each one before it has one block
abbrev pub invariant-loop-place : goal.invariant-loop-place
invariant-loop-place g l = record {
  at : option_map Region l.next ≡ slice_get (regions_of l.ctx l.op) l.place;
  one : (k : ℕ) (r : IRNode) → k < l.place → slice_get (regions_of l.ctx l.op) k ≡ Some r → HasOneBlock l.ctx r;
}
