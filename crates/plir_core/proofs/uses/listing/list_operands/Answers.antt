use Rattle.std.proofs.Common.{arith}
use Rattle.plir_core.specs.declared.value.Value.{Value}
use Rattle.plir_core.specs.declared.value.DefiningEntity.TheVariants.{Op}
use Rattle.plir_core.specs.SameValue.{same_value}
use Rattle.plir_core.proofs.ListedUses.{listed_more}
use Rattle.plir_core.proofs.uses.listing.list_operands.Goals as goal

pub loop-place-preserved : goal.loop-place-preserved
loop-place-preserved g c =
    let d : Value = record { entity = Op (record { slot = 0; version = 0; kind = record {} }); index = 0 } in
    listed_more (λ x. same_value x c.args.value) c.args.op c.args.uses.now.items _ _ c.args.operands.now
    c.loop-place.place d _ c.in_ok-list_place.ensures c.loop-place.invariant c.is_value.ensures
    (omega (arith, c.loop-place-test.true))
