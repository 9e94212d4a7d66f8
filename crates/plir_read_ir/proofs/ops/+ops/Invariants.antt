use Rattle.std.proofs.Common.{◌+◌, ◌*◌, ◌<◌, Some, length}
use Rattle.plir_core.specs.declared.ptr.IRNode.TheVariants.{Operation, Region, BasicBlock}
use Rattle.plir_read.specs.OpReading.{brace_at, semicolon_at}
use Rattle.plir_read_ir.specs.IrOpReading.{block_at, ir_op_at, ops_at, region_at, regions_at}
use Rattle.plir_read_ir.specs.Noting.{AreReady, IsPlaceLive, NotesOn}
use Rattle.plir_read_ir.specs.Readings.{ReadsRegions, scope_of}
use Rattle.plir_read_ir.proofs.Children.{Gathers}
use Rattle.plir_read_ir.proofs.Comes.{OpsSoFar}
use Rattle.plir_read_ir.proofs.ComesBlocks.{BlocksSoFar}
use Rattle.plir_read_ir.proofs.IrSteps.{RegionTurns, Turns}
use Rattle.plir_read_ir.proofs.ops.+ops.Given as goal

abbrev pub decreases-read_ir_op : goal.decreases-read_ir_op
decreases-read_ir_op g l = 7 * l.levels

abbrev pub decreases-read_own : goal.decreases-read_own
decreases-read_own g l = 7 * l.levels + 6

abbrev pub decreases-read_regions : goal.decreases-read_regions
decreases-read_regions g l = 7 * l.levels + 5

abbrev pub decreases-read_bodied : goal.decreases-read_bodied
decreases-read_bodied g l = 7 * l.levels + 5

abbrev pub decreases-read_body : goal.decreases-read_body
decreases-read_body g l = 7 * l.levels + 3

abbrev pub decreases-read_block : goal.decreases-read_block
decreases-read_block g l = 7 * l.levels + 2

abbrev pub decreases-read_ops : goal.decreases-read_ops
decreases-read_ops g l = 7 * l.levels + 1

abbrev pub decreases-read_ops-ops : goal.decreases-read_ops-ops
decreases-read_ops-ops g l = length l.rest

abbrev pub decreases-read_body-inner : goal.decreases-read_body-inner
decreases-read_body-inner g l = length l.rest

abbrev pub decreases-read_regions-regions : goal.decreases-read_regions-regions
decreases-read_regions-regions g l = length l.rest

abbrev pub invariant-read_ops-ops : goal.invariant-read_ops-ops
invariant-read_ops-ops g l =
    record {
      gathers : Gathers g.D.OpSet.attr_handles l.bytes l.initial.ctx l.ctx (BasicBlock l.block) l.rest;
      noted : NotesOn l.initial.ctx l.initial.notes l.ctx l.notes;
      at_live : IsPlaceLive l.ctx l.at;
      stands : AreReady l.initial.ctx l.initial.notes → OpsSoFar g.D.ReadSet.find_kind g.D.ReadSet.is_isolated l.levels
          l.bytes l.rest l.initial.ctx l.ctx l.initial.notes l.notes (scope_of l.at) (BasicBlock l.block);
      turns : Turns semicolon_at (ir_op_at g.D.ReadSet.find_kind l.levels) l.rest
          (ops_at (ir_op_at g.D.ReadSet.find_kind l.levels) l.bytes);
    }

abbrev pub invariant-read_body-inner : goal.invariant-read_body-inner
invariant-read_body-inner g l =
    record {
      gathers : Gathers g.D.OpSet.attr_handles l.bytes l.initial.ctx l.ctx (Region l.region) l.rest;
      noted : NotesOn l.initial.ctx l.initial.notes l.ctx l.notes;
      shorter : length l.rest < length l.bytes;
      stands : AreReady l.initial.ctx l.initial.notes → BlocksSoFar g.D.ReadSet.find_kind g.D.ReadSet.is_isolated
          l.levels l.bytes l.rest l.initial.ctx l.ctx l.initial.notes l.notes
          (record { body = l.body; region = Some l.region }) (Region l.region);
      turns : Turns brace_at (block_at (ir_op_at g.D.ReadSet.find_kind l.levels) l.levels) l.rest
          (region_at (ir_op_at g.D.ReadSet.find_kind l.levels) l.levels l.bytes);
    }

abbrev pub invariant-read_regions-regions : goal.invariant-read_regions-regions
invariant-read_regions-regions g l =
    record {
      gathers : Gathers g.D.OpSet.attr_handles l.bytes l.initial.ctx l.ctx (Operation l.op) l.rest;
      noted : NotesOn l.initial.ctx l.initial.notes l.ctx l.notes;
      stands : AreReady l.initial.ctx l.initial.notes → ReadsRegions g.D.ReadSet.find_kind g.D.ReadSet.is_isolated
          l.levels l.bytes l.rest l.initial.ctx l.ctx l.initial.notes l.notes l.body (Operation l.op);
      turns : RegionTurns (ir_op_at g.D.ReadSet.find_kind l.levels) l.levels l.rest
          (regions_at (ir_op_at g.D.ReadSet.find_kind l.levels) l.levels l.bytes);
    }
