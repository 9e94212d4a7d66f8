use Rattle.std.proofs.Common.{arith}
use Rattle.plir_core.specs.declared.ptr.Ptr.{Ptr}
use Rattle.plir_core.specs.declared.ptr.BasicBlock.{BasicBlock}
use Rattle.plir_core.specs.SameValue.{same_ptr}
use Rattle.plir_core.proofs.ListedUses.{listed_more}
use Rattle.plir_core.proofs.uses.listing.list_successors.Goals as goal

pub loop-place-preserved : goal.loop-place-preserved
loop-place-preserved g c =
    let d : Ptr BasicBlock = record { slot = 0; version = 0; kind = record {} } in
    listed_more (λ x. same_ptr x c.args.block) c.args.op c.args.uses.now.items _ _ c.args.successors.now
    c.loop-place.place d _ c.in_ok-list_place.ensures c.loop-place.invariant c.is_block.ensures
    (omega (arith, c.loop-place-test.true))
