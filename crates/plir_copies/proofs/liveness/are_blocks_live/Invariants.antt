use Rattle.std.proofs.Common.{map}
use Rattle.std.specs.Prelude.{All}
use Rattle.std.specs.Map.Iter.{deref_pair}
use Rattle.plir_core.specs.declared.ptr.IRNode.TheVariants.{BasicBlock}
use Rattle.plir_core.specs.ContextView.{IsLive}
use Rattle.plir_copies.proofs.liveness.are_blocks_live.Given as goal

abbrev pub invariant-entries : goal.invariant-entries
invariant-entries g l = All (λ e. IsLive l.ctx (BasicBlock e.1)) (map deref_pair l.yielded)
