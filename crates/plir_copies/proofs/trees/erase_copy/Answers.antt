use Rattle.std.proofs.Common.{subst}
use Rattle.plir_core.specs.Unused.{IsUnusedOutside}
use Rattle.plir_copies.proofs.trees.erase_copy.Goals as goal

pub erase-requires-clause-unused : goal.erase-requires-clause-unused
erase-requires-clause-unused g c = subst (IsUnusedOutside c.args.ctx.now) c.in-Operation.is c.requires.unused

pub erase-requires-in-BasicBlock-clause-unused : goal.erase-requires-in-BasicBlock-clause-unused
erase-requires-in-BasicBlock-clause-unused g c = subst (IsUnusedOutside c.args.ctx.now) c.in-BasicBlock.is c.requires.unused
