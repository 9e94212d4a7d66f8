use Rattle.std.proofs.Common.{◌≡◌, false, take}
use Rattle.plir_store.specs.Members.{Has}
use Rattle.plir_passes.specs.Cutting.{AreErased}
use Rattle.plir_passes.specs.Marked.{is_among, ops_of}
use Rattle.plir_passes.proofs.unreached_code.erase_all.Given as goal

abbrev pub invariant-loop-place : goal.invariant-loop-place
invariant-loop-place g l =
    AreErased (λ q. Has (take l.place (ops_of l.under)) q × (is_among (ops_of l.reached) q ≡ false)) l.fn.ctx l.ctx
