use Rattle.std.proofs.Common.{◌+◌, ◌*◌, [], ◌∷◌, length}
use Rattle.plir_attr_text.specs.Tokens.{sign}
use Rattle.plir_read.specs.OpGrammar.{OpWithin, BlockWithin}
use Rattle.plir_read.specs.Room.{op_count, block_count}
use Rattle.plir_read.proofs.Beginnings.{RoomSoFar}
use Rattle.plir_read.specs.laws.OpFound.{by_semicolon, by_brace}
use Rattle.plir_core.specs.declared.ptr.IRNode.TheVariants.{Region, BasicBlock}
use Rattle.plir_read.specs.OpReading.{op_at, ops_at, block_at, blocks_at, semicolon_at, brace_at}
use Rattle.plir_read.specs.OpTerms.{ops_of, blocks_of}
use Rattle.plir_read.specs.HeldTypes.{IsHeldByOp, IsHeldByOps, IsHeldByBlock, IsHeldByBlocks}
use Rattle.plir_read.proofs.Loops.{OpsGather, BlocksGather}
use Rattle.plir_read.proofs.Held.{HeldSoFar}
use Rattle.plir_read.specs.laws.TypesNamed.{AreNamedSoFar}
use Rattle.plir_read.proofs.ops.+ops.Given as goal

abbrev pub decreases-read_op_at : goal.decreases-read_op_at
decreases-read_op_at g l = 5 * l.levels

abbrev pub decreases-read_bodied : goal.decreases-read_bodied
decreases-read_bodied g l = 5 * l.levels + 4

abbrev pub decreases-read_body : goal.decreases-read_body
decreases-read_body g l = 5 * l.levels + 3

abbrev pub decreases-read_block : goal.decreases-read_block
decreases-read_block g l = 5 * l.levels + 2

abbrev pub decreases-read_ops : goal.decreases-read_ops
decreases-read_ops g l = 5 * l.levels + 1

abbrev pub decreases-read_ops-ops : goal.decreases-read_ops-ops
decreases-read_ops-ops g l = length l.rest

abbrev pub decreases-read_body-inner : goal.decreases-read_body-inner
decreases-read_body-inner g l = length l.rest

abbrev pub invariant-read_ops-ops : goal.invariant-read_ops-ops
invariant-read_ops-ops g l =
    OpsGather g.D.OpSet.attr_handles (op_at l.levels) l.initial.ctx l.ctx (BasicBlock l.block) l.rest
    (ops_at (op_at l.levels) l.bytes) × AreNamedSoFar l.bytes l.initial.ctx.types l.ctx.types l.rest
    × HeldSoFar IsHeldByOp (λ t os. IsHeldByOps t (ops_of os)) semicolon_at (op_at l.levels) l.initial.ctx.types
    l.ctx.types l.rest (ops_at (op_at l.levels) l.bytes)
    × RoomSoFar (OpWithin l.levels) by_semicolon op_count semicolon_at (op_at l.levels) [] l.initial.ctx.nodes
    l.ctx.nodes l.bytes l.rest (ops_at (op_at l.levels) l.bytes)

abbrev pub invariant-read_body-inner : goal.invariant-read_body-inner
invariant-read_body-inner g l =
    BlocksGather g.D.OpSet.attr_handles (op_at l.levels) l.levels l.initial.ctx l.ctx (Region l.region) l.rest
    (blocks_at (op_at l.levels) l.levels l.bytes) × AreNamedSoFar l.bytes l.initial.ctx.types l.ctx.types l.rest
    × HeldSoFar IsHeldByBlock (λ t bs. IsHeldByBlocks t (blocks_of bs)) brace_at (block_at (op_at l.levels) l.levels)
    l.initial.ctx.types l.ctx.types l.rest (blocks_at (op_at l.levels) l.levels l.bytes)
    × RoomSoFar (BlockWithin l.levels) by_brace block_count brace_at (block_at (op_at l.levels) l.levels)
    (sign 123 ∷ []) l.initial.ctx.nodes l.ctx.nodes l.bytes l.rest (blocks_at (op_at l.levels) l.levels l.bytes)
