use Rattle.std.proofs.Common.{◌≡◌, sym, subst}
use Rattle.std.specs.Prelude.{IfSome}
use Rattle.plir_core.specs.Stored.{op, block, seat_of}
use Rattle.plir_core.specs.Uses.{Counts}
use Rattle.plir_core.proofs.uses.counts.UseCounts.known.Goals as goal
use Rattle.plir_core.proofs.Counting.{known_is}

pub returns-in-Operation : goal.returns-in-Operation
returns-in-Operation c = λ f k.
    subst (λ m. IfSome c.known.result (λ n. n ≡ f (seat_of m))) (sym c.in-Operation.is)
    (known_is c.known.result c.self.inside.ops.items c.in-Operation.op.slot (f (op c.in-Operation.op.slot))
    c.known.ensures (subst (λ u. Counts u f) (sym c.self.view_is) k (op c.in-Operation.op.slot)))

pub returns-in-BasicBlock : goal.returns-in-BasicBlock
returns-in-BasicBlock c = λ f k.
    subst (λ m. IfSome c.known-in-BasicBlock.result (λ n. n ≡ f (seat_of m))) (sym c.in-BasicBlock.is)
    (known_is c.known-in-BasicBlock.result c.self.inside.blocks.items c.in-BasicBlock.block.slot
    (f (block c.in-BasicBlock.block.slot)) c.known-in-BasicBlock.ensures (subst
    (λ u. Counts u f) (sym c.self.view_is) k (block c.in-BasicBlock.block.slot)))
