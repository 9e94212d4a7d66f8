use Rattle.std.proofs.Common.{◌≡◌, sym, subst}
use Rattle.plir_core.specs.Stored.{seat_of}
use Rattle.plir_core.specs.Uses.{Counts}
use Rattle.plir_core.proofs.uses.counts.UseCounts.begin.Goals as goal
use Rattle.plir_core.proofs.Counting.{Counts-begun_op, Counts-begun_block}

pub returns-in-Operation : goal.returns-in-Operation
returns-in-Operation c = λ f zero k.
    Counts-begun_op (record { ops = c.self.inside.ops.items; blocks = c.self.inside.blocks.items })
    c.begin.new.counts.items c.in-Operation.op.slot f c.begin.ensures
    (subst (λ n. f (seat_of n) ≡ 0) c.in-Operation.is zero) (subst (λ u. Counts u f) (sym c.self.view_is) k)

pub returns-in-BasicBlock : goal.returns-in-BasicBlock
returns-in-BasicBlock c = λ f zero k.
    Counts-begun_block (record { ops = c.self.inside.ops.items; blocks = c.self.inside.blocks.items })
    c.begin-in-BasicBlock.new.counts.items c.in-BasicBlock.block.slot f c.begin-in-BasicBlock.ensures
    (subst (λ n. f (seat_of n) ≡ 0) c.in-BasicBlock.is zero) (subst (λ u. Counts u f) (sym c.self.view_is) k)
